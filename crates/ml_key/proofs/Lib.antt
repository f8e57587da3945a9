pub mod GrowingLists
pub mod BitRows
pub mod FilledSlots
pub mod PrefixPlaces
pub mod KeyParts
pub mod BitBeginnings
