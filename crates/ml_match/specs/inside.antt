pub mod Building
pub mod Matching
pub mod Clashes
pub mod Modes
pub mod Running
