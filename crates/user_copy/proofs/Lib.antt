mod Reached
mod Chains
mod Nearby
mod ProcessBytes
mod OtherCopies
mod CopySoFar
mod WholeCopies
