pub mod SameBefore
pub mod AddedEntries
pub mod AlikeLists
pub mod OfAdded
pub mod Worked
