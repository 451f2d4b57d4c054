pub mod Closing
pub mod Range
