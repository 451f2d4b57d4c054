pub mod Vector
pub mod Matrix
pub mod Checked
pub mod Lent
