-- Laws of the work memory.
pub mod Cleared
pub mod Lengths
