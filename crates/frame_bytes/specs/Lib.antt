pub mod Contents
pub mod StoredWords
