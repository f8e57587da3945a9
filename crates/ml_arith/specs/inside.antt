pub mod Operators
pub mod Tasks
pub mod Work
