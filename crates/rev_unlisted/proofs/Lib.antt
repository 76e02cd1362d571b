pub mod FollowLemmas
pub mod FoundLemmas
pub mod MakerLemmas
pub mod MarkLemmas
pub mod ReadLemmas
pub mod AnswerLemmas
pub mod JoinLemmas
