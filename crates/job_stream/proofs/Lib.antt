-- The laws of a stream: its text job by job and chunk by chunk; and of the functions that write it, in the order of the calls.
pub mod Leading
pub mod Line
pub mod Stream
pub mod Following
pub mod Steps
pub mod Ways
pub mod Going
pub mod Progress
pub mod Printing
pub mod Kept
