pub mod Given
pub mod Checks
