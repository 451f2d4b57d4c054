-- Laws of the solves with work memory of their own.
pub mod Moving
