-- What the refusals tell of a table that they pass; refusal 26 judged on bits.
pub mod Valid
pub mod Bits
pub mod Measured
