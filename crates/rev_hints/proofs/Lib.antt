pub mod RunningLemmas
pub mod ChangeLemmas
pub mod HintLemmas
pub mod NameLemmas
