-- Laws of a solve by lent rules.
pub mod Entry
pub mod Naming
