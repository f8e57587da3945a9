pub mod Limits
pub mod Prefixes
pub mod Listing
pub mod Regions
pub mod Changes
pub mod Keeping
pub mod Below
pub mod inside
