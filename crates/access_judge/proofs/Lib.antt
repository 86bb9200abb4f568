mod Ending
pub mod EpochEnds
pub mod Exact
pub mod FenceNumber
mod FenceNumbers
pub mod FencedOlder
mod FencedReads
mod KeptReads
pub mod LaterLeaf
mod Listed
pub mod ListedOutcomes
mod Moments
mod Parts
pub mod QuietRoots
pub mod Restart
mod SearchFinds
mod SearchKinds
mod SearchLists
mod SearchReads
mod SearchSays
mod SearchSound
mod SearchStands
pub mod Sifting
pub mod TableSays
pub mod Telling
pub mod UntilNow
pub mod UpdatedBehind
mod UpdatedReads
mod UpdatedWords
mod WordVersions
mod Worked
