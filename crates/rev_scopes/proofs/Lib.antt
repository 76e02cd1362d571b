pub mod BindingLemmas
pub mod ExpansionLemmas
pub mod ItselfLemmas
pub mod LawLemmas
pub mod RuleLemmas
pub mod ScopeLemmas
pub mod SlotLemmas
pub mod GivenLemmas
