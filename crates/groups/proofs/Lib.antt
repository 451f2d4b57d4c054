-- The laws of groups: labels and keys, numbers by lowest row, and that they leave no choice.
pub mod Front
pub mod Join
pub mod Number
pub mod Only
pub mod Least
pub mod Marking
