pub mod Amended
pub mod Histories
pub mod Laws
pub mod Orders
pub mod Provoked
pub mod Same
