pub mod KernelSteps
pub mod Living
pub mod Opening
