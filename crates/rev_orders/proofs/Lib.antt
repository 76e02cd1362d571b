pub mod Rows
pub mod LeftPairs
pub mod WaitLemmas
