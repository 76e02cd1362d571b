pub mod WitnessLemmas
pub mod ProgressLemmas
pub mod EdgeLemmas
pub mod RaceLemmas
