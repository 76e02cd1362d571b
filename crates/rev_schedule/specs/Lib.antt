pub mod Turns
pub mod Builds
pub mod Moments
pub mod Ninja
pub mod Lines
pub mod Going
pub mod Inputs
