pub mod Pairs
pub mod Pattern
pub mod Gather
pub mod Answers
