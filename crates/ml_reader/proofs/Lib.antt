pub mod Parsing
pub mod ReaderAnswers
pub mod RuleReading
pub mod ScriptReading
