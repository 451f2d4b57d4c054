pub mod Stream
pub mod Chunk
pub mod Left
