pub mod Events
pub mod Scans
pub mod Protecting
pub mod Lent
pub mod Laws
pub mod Recording
pub mod Numbers
pub mod Judging
