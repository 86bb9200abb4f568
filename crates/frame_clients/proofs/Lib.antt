pub mod PageSteps
pub mod Views
pub mod PoolSteps
