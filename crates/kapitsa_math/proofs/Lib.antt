-- The ways through the checked forms, that what is not finite stays so, and vectors stored in slices.
pub mod CheckedWays
pub mod Finite
pub mod Stored
