-- The check alone, from the check with lent memory.
pub mod Alone
