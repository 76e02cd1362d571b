pub mod MaskLemmas
pub mod TableLemmas
pub mod NoteLemmas
pub mod WalkLemmas
pub mod LaneLemmas
pub mod SameLemmas
pub mod ConeLemmas
