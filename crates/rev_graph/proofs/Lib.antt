pub mod AlikeLemmas
pub mod DecidedLemmas
pub mod EntryLemmas
pub mod GraphLemmas
pub mod KeptLemmas
pub mod ProducerLemmas
pub mod StepLemmas
