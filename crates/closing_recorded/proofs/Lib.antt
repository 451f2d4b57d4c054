-- One case, as the code reads and compares it.
pub mod Forming
pub mod Reading
