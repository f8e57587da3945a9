pub mod ScriptItems
pub mod ScriptSeen
pub mod ScriptRows
