pub mod SbrkEffect
pub mod SbrkResults
