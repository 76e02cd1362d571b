pub mod Needed
pub mod Recorded
pub mod Judged
pub mod Races
pub mod Certain
pub mod Sayings
