pub mod ListLemmas
pub mod KindLemmas
pub mod JoinLemmas
pub mod OrderLemmas
pub mod PairLemmas
pub mod TouchLemmas
pub mod AnswerLemmas
