pub mod ClientSteps
pub mod OwnedSteps
pub mod SeatSteps
