pub mod Escape
pub mod Words
