pub mod Entries
pub mod Slots
pub mod Expiry
pub mod Search
pub mod Answers
