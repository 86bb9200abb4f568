mod Bits
mod WordSteps
