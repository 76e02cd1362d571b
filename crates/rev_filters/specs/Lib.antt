pub mod Codes
pub mod Patterns
pub mod Texts
pub mod Rows
