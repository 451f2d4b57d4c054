-- Laws of what is delivered.
pub mod InOrder
pub mod Deliveries
pub mod Counted
pub mod Answered
pub mod Accumulated
