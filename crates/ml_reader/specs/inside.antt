pub mod parser
pub mod rules
pub mod script
