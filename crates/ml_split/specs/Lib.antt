pub mod Splitting
pub mod RegionSplits
pub mod Rows
