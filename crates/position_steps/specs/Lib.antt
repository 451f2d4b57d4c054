pub mod Opening
pub mod Ready
pub mod Start
pub mod Running
pub mod Counting
