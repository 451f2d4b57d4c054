-- Laws of the compact table and of its body numbers.
pub mod Table
pub mod Linked
