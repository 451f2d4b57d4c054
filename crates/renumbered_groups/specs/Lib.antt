pub mod Bench
pub mod Claims
pub mod Fits
