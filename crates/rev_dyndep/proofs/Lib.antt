pub mod AnswerLemmas
pub mod OriginLemmas
pub mod TextLemmas
pub mod ToldLemmas
