-- Bodies under new numbers.
pub mod Permuted
pub mod Along
pub mod Operator
pub mod Factors
pub mod Tables
pub mod Solves
pub mod Checks
pub mod Margins
pub mod Proved
pub mod Words
pub mod Lists
pub mod Lengths
pub mod Calls
pub mod CheckCalls
pub mod Entries
pub mod Examples
