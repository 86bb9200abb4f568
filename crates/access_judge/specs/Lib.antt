pub mod Findings
pub mod Judging
pub mod Listing
pub mod Log
pub mod Older
pub mod Quiet
pub mod Search
pub mod Sifting
