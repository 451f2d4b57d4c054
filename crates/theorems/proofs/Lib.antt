-- P1 to P9, V1 to V5, sentences of documents 01 and 02, that a solve and a check look only below the counts, and what a shift of 0 leaves as it was.
pub mod Sheets
pub mod Speeds
pub mod Sentences
pub mod Systems
pub mod Tables
pub mod Centres
pub mod Solves
pub mod Checks
pub mod Below
pub mod Unshifted
pub mod Agreeing
