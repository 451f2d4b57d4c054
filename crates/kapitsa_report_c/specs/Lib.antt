pub mod Measuring
pub mod Refusing
