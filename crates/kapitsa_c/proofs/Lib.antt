pub mod Telling
pub mod Verdicts
