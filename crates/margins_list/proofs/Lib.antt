-- The order of the rows is strict and total, so the list is the only one; insertion keeps it.
pub mod Fractions
pub mod Before
pub mod Inserted
pub mod Placed
pub mod Filled
pub mod Only
pub mod Ranked
pub mod Ranks
pub mod Told
