-- The ways through the tests that are judged in order and through the reading of a job, what the answers mean, where a mass stands in its section and a row in the lists of a job, and what a walk of the reader gives.
pub mod Counted
pub mod Masses
pub mod Written
pub mod Judgement
pub mod Reading
pub mod Meaning
pub mod Rows
pub mod Walking
