pub mod Appended
pub mod Rows
