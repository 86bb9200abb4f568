pub mod Frames
pub mod Leaves
pub mod Reasons
