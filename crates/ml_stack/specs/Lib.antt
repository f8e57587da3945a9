pub mod Memories
pub mod Variables
pub mod Stands
pub mod Apart
pub mod Choices
pub mod Answers
pub mod Levels
