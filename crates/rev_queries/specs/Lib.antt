pub mod Critical
pub mod Edges
pub mod Own
pub mod Readings
pub mod Rebuilds
pub mod Statement
pub mod Times
