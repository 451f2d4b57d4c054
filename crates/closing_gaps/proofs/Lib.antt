-- What the numbers of a verdict mean, and what the entry points' calls come to.
pub mod Told
pub mod Entry
pub mod OwnMemory
