-- Laws of the impulses in their slices, and that testing the product tests all, and testing a dot product with it tests the product.
pub mod Flat
pub mod Orders
pub mod Sums
pub mod BodyPairs
pub mod Dots
pub mod Values
pub mod Room
pub mod Answers
pub mod Overflow
pub mod Same
pub mod AllFinite
