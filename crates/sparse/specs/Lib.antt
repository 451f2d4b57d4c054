pub mod Count
pub mod Triangle
pub mod Cholesky
pub mod Kept
pub mod Marks
pub mod Answers
