pub mod Layout
pub mod File
pub mod Walk
pub mod Refusals
pub mod Job
