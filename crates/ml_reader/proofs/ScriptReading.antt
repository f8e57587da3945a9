pub mod ScriptGoals
pub mod ItemViews
pub mod ScriptRuns
pub mod ScriptSizes
pub mod ReadScriptAnswers
pub mod OneScriptReading
