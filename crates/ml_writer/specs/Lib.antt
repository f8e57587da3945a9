pub mod Output
pub mod AnswerText
pub mod inside
