pub mod Applied
pub mod System
pub mod Operator
pub mod Dot
pub mod Lent
pub mod Flat
pub mod BodyPair
