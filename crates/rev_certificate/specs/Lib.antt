pub mod Obstacles
pub mod Assured
