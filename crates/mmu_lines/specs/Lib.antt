pub mod Claims
pub mod Playing
pub mod Requests
pub mod States
pub mod Writes
