pub mod FoundLemmas
pub mod LeftLemmas
pub mod LookLemmas
pub mod AnswerLemmas
pub mod StrongerLemmas
