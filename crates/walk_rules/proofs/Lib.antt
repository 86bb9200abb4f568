pub mod AdBits
pub mod Bits
pub mod Canonical
pub mod Deciding
pub mod NapotRegions
pub mod Shifts
