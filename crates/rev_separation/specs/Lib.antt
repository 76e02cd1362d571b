pub mod Runs
pub mod Builds
pub mod Pairs
pub mod Tallies
