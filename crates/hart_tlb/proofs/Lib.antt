pub mod Examples
pub mod Numbers
pub mod Outcomes
pub mod Pages
