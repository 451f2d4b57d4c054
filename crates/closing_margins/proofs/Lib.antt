-- What the numbers mean for the verdict, and what the entry points' calls come to.
pub mod Sizes
pub mod Compared
pub mod Alone
pub mod Entry
pub mod OwnMemory
