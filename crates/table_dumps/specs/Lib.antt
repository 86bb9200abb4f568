pub mod Below
pub mod Dumps
pub mod Leaves
pub mod Listings
