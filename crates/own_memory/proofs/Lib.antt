-- Laws of work memory that a solve has of its own.
pub mod Lending
pub mod Rooms
