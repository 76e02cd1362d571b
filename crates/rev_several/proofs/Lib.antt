pub mod FileLemmas
pub mod HolderLemmas
pub mod ShownLemmas
