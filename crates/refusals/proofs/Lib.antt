pub mod Again
pub mod Few
