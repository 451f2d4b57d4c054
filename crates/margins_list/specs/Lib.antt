pub mod Margins
pub mod Ranked
