-- Laws of the steps.
pub mod Openings
pub mod AtOnce
pub mod Tables
pub mod StepZero
pub mod Stepping
pub mod Factored
pub mod Counted
