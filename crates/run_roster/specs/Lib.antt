-- The files of this folder.
pub mod Names
pub mod Births
pub mod RosterState
pub mod RosterView
pub mod Settled
pub mod Slots
pub mod StartEffects
pub mod StartFrames
pub mod Starts
pub mod FilesOfRun
pub mod Plans
pub mod Queues
