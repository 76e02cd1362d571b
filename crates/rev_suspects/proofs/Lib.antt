pub mod PastLemmas
pub mod MarkLemmas
pub mod FailureLemmas
pub mod SuspectLemmas
pub mod LawLemmas
pub mod ForcedLemmas
pub mod BasisLemmas
