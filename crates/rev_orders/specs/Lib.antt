pub mod Orders
pub mod Pairs
