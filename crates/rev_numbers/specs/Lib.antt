pub mod Taken
pub mod Value
