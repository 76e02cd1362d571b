pub mod Edges
pub mod Laws
pub mod Runs
