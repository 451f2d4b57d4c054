pub mod Bytes
pub mod JobBits
pub mod Written
pub mod Refusals
pub mod Fits
