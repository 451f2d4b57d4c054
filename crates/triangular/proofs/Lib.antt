-- Laws of the index by column, and of the loops along a row and along a column.
pub mod Order
pub mod Building
pub mod Homes
pub mod Down
pub mod Solves
