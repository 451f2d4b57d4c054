-- Laws of the blocks.
pub mod Leading
pub mod RunsOf
pub mod RowPairs
pub mod Solving
pub mod BlocksHeld
pub mod Stores
