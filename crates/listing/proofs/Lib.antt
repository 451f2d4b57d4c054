-- The laws of text that is written piece by piece, of decimal digits, of the names of the lines, and how long a listing is.
pub mod Joined
pub mod Pieces
pub mod Decimal
pub mod Names
pub mod Length
