-- Laws of the flat slices that keep a sparse triangle, and of the loops over them.
pub mod Hop
pub mod Rows
pub mod Fit
pub mod Marks
pub mod Left
