pub mod LastLemmas
pub mod Lists
pub mod Nearest
pub mod Prints
pub mod SoughtLemmas
