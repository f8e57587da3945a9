pub mod TaskLists
pub mod CopyStates
