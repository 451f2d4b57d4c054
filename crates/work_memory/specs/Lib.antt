pub mod Work
pub mod Lengths
