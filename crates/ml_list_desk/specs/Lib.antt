pub mod Items
pub mod inside
