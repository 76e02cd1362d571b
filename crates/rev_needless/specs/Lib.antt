pub mod Without
pub mod Staying
pub mod Needless
pub mod Laws
