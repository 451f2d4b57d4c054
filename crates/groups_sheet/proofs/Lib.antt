-- The laws of the groups program's lines, of the whole table's tests, which are those of the solve by groups, and of one group's memory.
pub mod Opened
pub mod Words
pub mod Whole
pub mod Same
pub mod Alone
