pub mod RowWords
pub mod AskingRows
