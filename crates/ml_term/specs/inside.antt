pub mod KeyHeads
pub mod Rows
pub mod UnifierRows
pub mod Reading
