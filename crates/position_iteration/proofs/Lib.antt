-- Laws of the loop over the steps.
pub mod Fits
pub mod Turning
pub mod DiagonalTurns
