mod BelowEntry
mod SameBefore
mod OtherScales
pub mod AddedEntries
mod PartedLists
mod Forks
pub mod AlikeLists
pub mod OfAdded
pub mod OfAlike
pub mod Worked
