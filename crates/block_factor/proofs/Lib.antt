-- Laws of one block.
pub mod Cells
pub mod Stretches
