pub mod HistoryLemmas
pub mod PoolLemmas
