pub mod Members
pub mod Steps
pub mod Together
pub mod Places
pub mod Reach
pub mod Compared
pub mod LeftEquality
