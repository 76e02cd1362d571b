pub mod CertainLemmas
pub mod WholeLemmas
