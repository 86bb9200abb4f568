pub mod Buffer
pub mod Entries
pub mod Outcome
