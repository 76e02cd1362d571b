pub mod Masks
pub mod Table
pub mod Walk
pub mod Lanes
pub mod Cones
