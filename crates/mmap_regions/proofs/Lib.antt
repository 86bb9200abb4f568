pub mod Around
pub mod Leaving
pub mod Mappings
pub mod Moves
pub mod Places
pub mod Protections
pub mod Walking
pub mod Wholes
