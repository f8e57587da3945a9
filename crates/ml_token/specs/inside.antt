pub mod Gap
pub mod Tokens
