pub mod Led
pub mod Searching
