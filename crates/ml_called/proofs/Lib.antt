pub mod ChangedTerms
pub mod TermsOfBodies
pub mod CallableCells
pub mod RestoredTerms
pub mod Slots
pub mod GoalOutlines
pub mod Walks
pub mod SlotsOfVariables
