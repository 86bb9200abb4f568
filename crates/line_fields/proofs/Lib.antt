pub mod Drops
pub mod Ends
