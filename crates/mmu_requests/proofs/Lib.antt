pub mod NoClaims
pub mod NoProfiles
pub mod NoRequests
pub mod Words
