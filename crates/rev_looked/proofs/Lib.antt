pub mod NeedLemmas
pub mod NoteLemmas
pub mod UseLemmas
pub mod UserLemmas
pub mod SweepLemmas
pub mod SeenLemmas
