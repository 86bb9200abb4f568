-- The files of this folder.
mod Counts
mod Rosters
mod Lending
mod Beginning
mod Slotting
mod Making
mod Framing
mod Tries
mod Queueing
