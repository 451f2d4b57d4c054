pub mod Triangular
pub mod Column
pub mod Index
pub mod Answers
