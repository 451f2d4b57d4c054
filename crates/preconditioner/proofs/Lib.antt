-- Laws of building and applying the preconditioners, and the numbers that they are refused with.
pub mod Applies
pub mod Modes
pub mod Means
pub mod Numbers
pub mod InPlace
pub mod Shifted
