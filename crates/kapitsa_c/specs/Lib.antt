pub mod Closing
pub mod Solving
