pub mod Limits
pub mod Bytes
pub mod Number
pub mod Quoted
pub mod Language
pub mod Values
pub mod inside
