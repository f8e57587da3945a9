pub mod Parts
pub mod ReservedPredicates
pub mod PredicatesListed
pub mod GoalsMade
