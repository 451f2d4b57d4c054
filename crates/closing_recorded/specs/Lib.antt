pub mod Tally
pub mod Case
