pub mod ViewChanges
pub mod LatchClosing
pub mod ListLemmas
pub mod SeatNumbers
pub mod SeatSteps
pub mod TurnSteps
