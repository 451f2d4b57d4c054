pub mod Bench
pub mod Group
pub mod Step
