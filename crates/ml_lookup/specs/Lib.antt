pub mod Full
pub mod Next
pub mod inside
