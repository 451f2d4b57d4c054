-- The ways from a file to its sheet, and a text written behind another.
pub mod Ways
pub mod Measured
pub mod Behind
pub mod Places
