-- The theorems of a solve by steps, for every method: what the crates that instantiate it cite.
pub mod Steps
pub mod Turns
pub mod Counting
pub mod Count
pub mod Answer
pub mod FirstStep
pub mod InPlace
pub mod Alike
