-- Refusal 18 judged on bits.
pub mod Bits
