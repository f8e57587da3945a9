pub mod Layout
pub mod PieceText
pub mod DraftText
pub mod MetTable
pub mod Parts
