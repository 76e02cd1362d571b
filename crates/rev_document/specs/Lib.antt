pub mod Levels
pub mod Writing
