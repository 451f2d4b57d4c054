-- Where the bodies of a lent row stand, their sums, and what the operator leaves.
pub mod Bodies
pub mod Added
pub mod Product
