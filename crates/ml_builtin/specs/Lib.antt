pub mod Outcomes
pub mod Tables
pub mod inside
