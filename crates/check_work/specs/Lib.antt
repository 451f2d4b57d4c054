pub mod Work
pub mod Rows
