pub mod EachLemmas
pub mod InputLemmas
pub mod LastLemmas
pub mod LedLemmas
pub mod PastLemmas
