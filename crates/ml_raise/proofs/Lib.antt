pub mod CausesAdded
