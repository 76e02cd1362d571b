pub mod Commands
pub mod Events
pub mod Naming
pub mod Needs
pub mod Ranges
pub mod Users
pub mod Uses
