pub mod FileLogs
pub mod Files
pub mod LastKeys
pub mod LastNotes
pub mod NoteMaps
pub mod Seen
