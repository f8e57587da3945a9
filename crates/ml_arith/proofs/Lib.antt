pub mod Divisions
pub mod TaskLists
pub mod Operands
pub mod WorkLeft
pub mod ResultsInRange
pub mod Turns
