pub mod FilledFrames
pub mod Places
