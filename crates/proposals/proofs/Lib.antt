-- What the calls of the noting and of the commit come to.
pub mod Noted
pub mod Judging
