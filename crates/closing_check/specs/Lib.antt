pub mod Checked
pub mod Beside
