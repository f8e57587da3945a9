pub mod Spells
pub mod inside
