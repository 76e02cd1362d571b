pub mod OutputLemmas
pub mod TurnLemmas
