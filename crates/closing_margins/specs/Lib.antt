pub mod Alone
pub mod Held
