-- Laws of step 0 and of what is delivered.
pub mod Valid
pub mod Rows
pub mod EitherKind
pub mod Ways
pub mod Started
pub mod Starts
pub mod Gains
pub mod Largest
pub mod Diagonal
pub mod Same
pub mod Moved
