pub mod Limits
pub mod Facts
pub mod Texts
