pub mod WaitLemmas
pub mod MendLemmas
