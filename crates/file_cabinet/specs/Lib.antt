pub mod Promises
pub mod FileLaws
