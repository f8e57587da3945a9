pub mod CanonicalTokens
pub mod TextLevels
pub mod ReadBack
pub mod Rows
