-- What the entry point's calls come to.
pub mod Judged
pub mod Measured
pub mod Held
pub mod Entry
