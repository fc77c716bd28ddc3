pub mod Fields
pub mod Whole
pub mod ListedEntries
mod InBytes
pub mod Inverses
pub mod NothingLost
pub mod InSlots
mod OnePass
mod DaysPassed
mod Judged
pub mod Held
pub mod Dated
mod FoundFirst
pub mod Calls
