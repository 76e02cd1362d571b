pub mod Additions
pub mod Author
pub mod Lines
pub mod Noted
pub mod Patch
pub mod Read
pub mod Runs
pub mod Statement
