-- Laws of the recurrence: the vectors that its loops make, the ways through its functions, what tests imply one another, and that its parts are a step.
pub mod Tested
pub mod Sums
pub mod Together
pub mod Turns
pub mod OnePass
pub mod Residual
