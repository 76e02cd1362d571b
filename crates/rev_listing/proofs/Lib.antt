pub mod CellLemmas
pub mod InputLemmas
pub mod LineLemmas
