pub mod Failures
pub mod Suspects
pub mod Past
pub mod Laws
pub mod Bases
