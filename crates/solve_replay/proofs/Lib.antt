-- Laws of a job's memory, and of what it shows.
pub mod Filling
pub mod Beside
pub mod Showing
