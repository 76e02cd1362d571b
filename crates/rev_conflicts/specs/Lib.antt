pub mod Ranges
pub mod Places
pub mod Conflicts
pub mod Answer
pub mod Tables
pub mod Laws
