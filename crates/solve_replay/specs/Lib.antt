pub mod Job
pub mod Compare
pub mod Seen
