pub mod Files
pub mod Holders
pub mod Makings
