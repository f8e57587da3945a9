pub mod ItemList
pub mod Places
pub mod TreeCodes
pub mod Standing
pub mod Outcomes
pub mod ListDesks
