pub mod PartLists
pub mod ToldPrefixes
pub mod OwnerItems
pub mod NextItems
pub mod Climbing
pub mod Walking
