pub mod DeskStateLemmas
pub mod BreakLemmas
pub mod DeskLemmas
pub mod JournalLemmas
pub mod LeadLemmas
pub mod Promises
pub mod Rising
pub mod BreakKeyLemmas
