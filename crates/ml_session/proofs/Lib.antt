pub mod EndsPassed
pub mod GoalsPassed
pub mod LinesAdded
pub mod LogsBegin
pub mod SessionsRun
