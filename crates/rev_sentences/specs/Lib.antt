pub mod Meanings
pub mod Sentences
