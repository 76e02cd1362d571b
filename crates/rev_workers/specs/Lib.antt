pub mod Closing
pub mod Codes
pub mod Laws
pub mod Locked
pub mod Running
pub mod Tracks
pub mod Waiting
