-- The refusals of a solve, each in its place; the two kinds; and steps that are the same where z and tolerances agree.
pub mod Alike
pub mod Parts
pub mod InPlace
pub mod EitherKind
