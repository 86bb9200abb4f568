pub mod Memory
pub mod Entries
