pub mod Judged
pub mod Solved
pub mod Each
