-- Laws of reading a list, and of its packed form.
pub mod Read
pub mod Packing
