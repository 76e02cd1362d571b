pub mod TurnLemmas
pub mod LineLemmas
pub mod PoolLemmas
pub mod LookLemmas
pub mod OpenLemmas
pub mod InsideLemmas
pub mod FirstLemmas
