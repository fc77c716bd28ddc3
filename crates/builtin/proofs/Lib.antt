pub mod Regular
pub mod Counted
pub mod OneLookup
pub mod Buckets
pub mod EventEntries
pub mod EpochConstants
pub mod Calls
