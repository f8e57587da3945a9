pub mod Changes
pub mod Modes
pub mod Requests
pub mod inside
