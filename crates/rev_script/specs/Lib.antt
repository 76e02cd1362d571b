pub mod LeftTurns
pub mod Lines
pub mod Migrations
pub mod Output
pub mod Scripts
pub mod SeenTurns
pub mod Turns
