pub mod Limits
pub mod Walks
pub mod Commands
pub mod Forms
pub mod InOrder
pub mod Seen
