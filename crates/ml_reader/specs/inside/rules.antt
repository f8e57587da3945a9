pub mod FormsSeen
pub mod DeclarationSteps
pub mod PartsSeen
pub mod RulesSteps
