-- Laws of the solve of one group: what is lent to it, what it delivers, and what is told of it.
pub mod Relent
pub mod Owned
pub mod Delivery
pub mod Telling
pub mod Stepping
