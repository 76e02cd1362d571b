pub mod Histories
pub mod Pools
