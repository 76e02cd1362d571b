pub mod Cells
pub mod Events
pub mod Shown
