pub mod Scanning
pub mod Epochs
pub mod Asked
pub mod Adding
pub mod Protected
pub mod Places
