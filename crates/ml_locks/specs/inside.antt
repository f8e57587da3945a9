pub mod Stored
pub mod Waiting
