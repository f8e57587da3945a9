pub mod PrefixHomes
pub mod RegionPrefixes
