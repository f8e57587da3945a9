pub mod Requests
pub mod Asking
pub mod Leads
pub mod TurnWords
pub mod Expand
pub mod Weights
pub mod inside
