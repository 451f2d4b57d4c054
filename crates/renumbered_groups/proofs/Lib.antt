-- Groups of rows with their bodies under new numbers.
pub mod Together
pub mod Picked
pub mod Whole
pub mod Group
pub mod Bench
pub mod Entries
