pub mod HartAnswers
pub mod PlainWalks
pub mod SpaceWalks
pub mod TlbEntries
pub mod TlbExamples
