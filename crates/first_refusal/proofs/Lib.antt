-- A search for the first that fails, a row and a rule alone, and the test of each number.
pub mod Led
pub mod Parts
pub mod Runs
pub mod Judged
pub mod Places
pub mod Somewhere
pub mod Block
pub mod Turned
