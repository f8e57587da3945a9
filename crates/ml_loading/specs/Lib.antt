pub mod KeyOrder
pub mod Items
pub mod Lists
