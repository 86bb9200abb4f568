pub mod Widths
pub mod Numbers
pub mod Writes
pub mod Stored
pub mod Filled
pub mod Taken
