pub mod Filing
pub mod Linking
