-- What refusal 3 tells, the ways through the tests that are judged in order, and that what passes at once passes in order.
pub mod Fitting
pub mod Judgement
pub mod AtOnce
