-- The files of this folder.
mod Reaching
mod TokenSteps
mod Settling
