pub mod Proposal
pub mod Commit
