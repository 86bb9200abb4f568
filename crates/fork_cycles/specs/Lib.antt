pub mod Forks
pub mod Search
