pub mod AnswerLemmas
pub mod CommandLemmas
pub mod CommandLineLemmas
pub mod JoinLemmas
pub mod LawLemmas
pub mod SaysLemmas
pub mod SetLemmas
pub mod TextLemmas
