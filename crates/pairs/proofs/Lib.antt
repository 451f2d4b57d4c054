-- Laws of the pairs while they are gathered and valued.
pub mod Parted
pub mod Crosses
pub mod Parts
pub mod Firsts
pub mod Places
pub mod Limit
pub mod Tested
pub mod EitherOrder
