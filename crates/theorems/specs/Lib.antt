pub mod Sheets
pub mod Speeds
pub mod Below
