pub mod Witness
pub mod Progress
pub mod Sources
pub mod Words
