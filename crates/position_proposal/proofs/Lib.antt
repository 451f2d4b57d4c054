-- What the calls of the entry come to, and the theorems that join it with the commit.
pub mod Entry
pub mod CommitAfterPropose
