pub mod ClashLemmas
