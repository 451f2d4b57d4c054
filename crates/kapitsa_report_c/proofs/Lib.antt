-- What is told of a place, and of each row's number.
pub mod Told
pub mod Measured
