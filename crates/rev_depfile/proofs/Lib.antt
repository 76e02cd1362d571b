pub mod CutLemmas
pub mod FaultLemmas
pub mod GrammarLemmas
pub mod LineLemmas
pub mod ReadingLemmas
pub mod SignLemmas
pub mod SpellingLemmas
pub mod WordLemmas
