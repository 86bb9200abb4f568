pub mod Begins
pub mod ElfChecks
pub mod Headers
pub mod Judged
pub mod LittleNumbers
pub mod Reserved
pub mod FirstFaults
