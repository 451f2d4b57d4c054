pub mod Run
pub mod Place
pub mod Room
