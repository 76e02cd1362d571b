pub mod Includes
pub mod Replayed
