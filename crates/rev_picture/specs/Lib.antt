pub mod Escape
pub mod Picture
