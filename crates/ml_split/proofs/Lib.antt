pub mod KeyCounts
pub mod SplitWalk
pub mod PartingKeys
pub mod RegionKeys
pub mod FurtherKey
pub mod MeetingRegions
pub mod RegionSizes
