pub mod Invariant
pub mod StepEffects
pub mod SeatsOfTable
pub mod Totals
pub mod Pool
