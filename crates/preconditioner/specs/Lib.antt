pub mod Mode
pub mod Shift
pub mod Room
pub mod Factor
pub mod Apply
pub mod Held
