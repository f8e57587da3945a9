pub mod Extension
pub mod PatternCodes
pub mod Turns
