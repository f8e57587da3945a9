pub mod Slots
pub mod Built
pub mod Entered
pub mod inside
