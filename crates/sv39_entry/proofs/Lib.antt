pub mod Bits
pub mod Canonical
pub mod Made
