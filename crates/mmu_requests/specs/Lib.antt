pub mod Lines
pub mod Mistakes
pub mod Profiles
