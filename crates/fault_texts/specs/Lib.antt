pub mod Causes
pub mod Counts
pub mod Limits
pub mod Mistakes
pub mod Refused
pub mod Unknown
