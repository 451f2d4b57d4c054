pub mod Pick
pub mod Steps
