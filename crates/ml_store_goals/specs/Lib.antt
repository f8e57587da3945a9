pub mod Goals
pub mod inside
