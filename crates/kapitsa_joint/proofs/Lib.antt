-- Laws of rows, masses, impulses, tolerances and centres in the lent tables.
pub mod Cross
pub mod Stored
pub mod Largest
pub mod Above
pub mod Centres
