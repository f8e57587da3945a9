pub mod Pairs
pub mod Outlines
