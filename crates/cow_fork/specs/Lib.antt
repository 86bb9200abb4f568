pub mod Children
pub mod Forks
pub mod TableList
pub mod Occurrences
pub mod SplitSpaces
pub mod ForkReferences
