pub mod Codes
pub mod Answers
pub mod Harts
pub mod Walks
