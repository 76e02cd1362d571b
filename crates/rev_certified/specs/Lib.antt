pub mod Certain
pub mod Standing
pub mod Whole
