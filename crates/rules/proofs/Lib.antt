-- The search for the one rule of a row, each row judged, and what refusals 27 and 28 come to.
pub mod Only
pub mod Finding
pub mod EachRow
pub mod Lent
pub mod Ruled
pub mod Two
pub mod Agree
pub mod ByDimension
