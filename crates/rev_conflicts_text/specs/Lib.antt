pub mod Lines
pub mod Stale
