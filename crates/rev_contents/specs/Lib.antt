pub mod Runs
pub mod Commands
pub mod Laws
pub mod Rising
pub mod Kinds
