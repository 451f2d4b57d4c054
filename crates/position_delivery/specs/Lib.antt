pub mod Outcome
pub mod Delivery
