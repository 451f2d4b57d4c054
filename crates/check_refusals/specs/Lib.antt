pub mod Refusals
pub mod Judged
pub mod Sound
