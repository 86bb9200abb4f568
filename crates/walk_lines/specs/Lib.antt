pub mod Walks
pub mod Listings
pub mod Below
pub mod Texts
pub mod Buffers
