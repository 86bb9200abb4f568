pub mod Entries
pub mod Escaped
pub mod Names
