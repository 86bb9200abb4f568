pub mod Loads
pub mod Headers
pub mod ExecRefusals
pub mod FirstFaults
