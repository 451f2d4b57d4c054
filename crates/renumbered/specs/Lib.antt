pub mod Renumber
pub mod Moved
pub mod Lists
pub mod Claims
pub mod Calls
