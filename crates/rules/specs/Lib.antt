pub mod Rules
pub mod Found
pub mod Rows
pub mod Plain
