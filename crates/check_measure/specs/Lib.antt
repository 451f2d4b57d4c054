pub mod Verdict
pub mod Gap
pub mod Rows
