pub mod Row
pub mod Mass
pub mod Impulse
pub mod Tolerance
pub mod Table
pub mod Maxima
pub mod Centre
pub mod Kind
