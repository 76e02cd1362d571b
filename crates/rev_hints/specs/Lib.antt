pub mod Running
pub mod Changes
pub mod Hints
pub mod Names
