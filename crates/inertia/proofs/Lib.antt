-- The ways through each function; what an accepted factor and an inverse mean; each refusal in its place.
pub mod Pivot
pub mod Rows
pub mod Scale
pub mod Accepted
pub mod Factoring
pub mod Solving
pub mod Inverting
pub mod Signs
pub mod SmallRoots
pub mod LargestOfNine
pub mod NoMinusZero
pub mod InOrder
pub mod Nines
pub mod Worked
