pub mod Deeds
pub mod Conflicts
pub mod Joins
pub mod Orders
pub mod Touches
pub mod Ensures
