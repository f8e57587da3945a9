pub mod Changes
pub mod Carries
pub mod Looks
pub mod Storing
pub mod inside
