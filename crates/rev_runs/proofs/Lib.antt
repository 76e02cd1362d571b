pub mod EdgeLemmas
pub mod LawLemmas
pub mod RunLemmas
