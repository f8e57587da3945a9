pub mod ListRows
pub mod LogRows
