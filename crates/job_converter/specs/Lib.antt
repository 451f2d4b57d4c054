pub mod Bytes
pub mod Opened
pub mod Converted
pub mod Program
