pub mod Centres
pub mod Problem
pub mod Kinds
pub mod Prepare
pub mod Residual
pub mod Multipliers
pub mod Answers
