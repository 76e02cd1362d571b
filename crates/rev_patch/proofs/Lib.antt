pub mod AuthorLemmas
pub mod ChangeLemmas
pub mod HunkLemmas
pub mod LineLemmas
pub mod ReadLemmas
pub mod RunLemmas
