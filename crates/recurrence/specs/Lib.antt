pub mod Vectors
pub mod Step
pub mod Parts
pub mod Pass
pub mod Answers
