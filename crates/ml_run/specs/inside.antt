pub mod StepCauses
pub mod Seen
pub mod RunAndPrint
