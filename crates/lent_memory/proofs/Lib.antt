mod Added
pub mod Places
