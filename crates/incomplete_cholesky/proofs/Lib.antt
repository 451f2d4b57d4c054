-- Laws of building the factor.
pub mod Builds
