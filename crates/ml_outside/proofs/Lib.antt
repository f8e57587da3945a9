pub mod FileEntries
pub mod BytesPassed
