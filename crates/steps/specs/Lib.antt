pub mod Method
pub mod Steps
pub mod Solve
pub mod Meaning
pub mod Numbers
pub mod InPlace
pub mod Alike
