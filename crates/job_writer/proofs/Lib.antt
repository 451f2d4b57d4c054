-- Bytes that stand in a file and the parts of a written one, that a written file reads back as its job and as doubles, and that the reader's refusals pass it, how long it is, the ways through the writer's tests, and which jobs they pass.
pub mod Stands
pub mod Places
pub mod Back
pub mod Judged
pub mod Doubles
pub mod Ways
pub mod Little
pub mod Zero
pub mod Sizes
pub mod Passed
