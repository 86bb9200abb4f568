pub mod FrameSteps
pub mod Reasons
