pub mod DeclaredLists
pub mod Links
pub mod LoadedProgram
pub mod LinkedGoals
pub mod inside
