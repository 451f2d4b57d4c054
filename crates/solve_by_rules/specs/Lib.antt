pub mod SolveHeld
pub mod Ruled
