pub mod Layout
pub mod Equations
pub mod Rules
pub mod Walks
