pub mod AnswerLemmas
pub mod CommandLemmas
pub mod EndLemmas
pub mod EntryLemmas
pub mod SaysLemmas
pub mod WordLemmas
