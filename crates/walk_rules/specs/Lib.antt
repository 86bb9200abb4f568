pub mod Addresses
pub mod Kinds
pub mod Pmp
pub mod Rights
