pub mod Ids
pub mod Baselines
