pub mod ListLemmas
pub mod WithoutLemmas
pub mod StayLemmas
pub mod NeedlessLemmas
pub mod LawLemmas
