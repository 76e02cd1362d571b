pub mod Waits
pub mod Mending
