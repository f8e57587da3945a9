pub mod Faults
pub mod Goals
pub mod Called
pub mod inside
