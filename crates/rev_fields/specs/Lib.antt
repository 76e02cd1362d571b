pub mod Faults
pub mod Fields
pub mod Grammar
pub mod Laws
pub mod Lines
pub mod Numbers
pub mod Parts
