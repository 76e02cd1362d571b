pub mod Links
pub mod Racing
