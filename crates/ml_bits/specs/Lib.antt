pub mod BitList
pub mod inside
