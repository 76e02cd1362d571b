pub mod Names
pub mod Edges
pub mod Happened
pub mod Lines
pub mod Counts
pub mod Failed
pub mod Status
pub mod LeftOut
