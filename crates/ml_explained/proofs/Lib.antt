pub mod Entered
pub mod ExplainedLists
pub mod KeptHistories
pub mod UncommittedSessions
pub mod ToldHistories
pub mod RowsComputed
