-- Laws of the lists and their counts.
pub mod Counting
