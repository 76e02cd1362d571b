pub mod AmendedLemmas
pub mod FileLemmas
pub mod OrderLemmas
pub mod PatchedLemmas
pub mod SameLemmas
