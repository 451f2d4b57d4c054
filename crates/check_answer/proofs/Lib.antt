-- The answer's meaning, from the numbers that refusal 18 lets pass to the exact gaps.
pub mod Listed
pub mod Meaning
