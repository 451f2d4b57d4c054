pub mod Method
pub mod Position
pub mod Places
pub mod Counting
