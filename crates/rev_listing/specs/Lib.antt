pub mod Listing
pub mod Logs
pub mod Marks
pub mod Parts
pub mod Stamps
pub mod Why
