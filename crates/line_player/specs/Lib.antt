pub mod PlayedLines
pub mod Answers
