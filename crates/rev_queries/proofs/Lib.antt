pub mod ListLemmas
pub mod CopyLemmas
pub mod ChainLemmas
pub mod OwnLemmas
pub mod RebuildLemmas
