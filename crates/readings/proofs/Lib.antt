pub mod LaterEntries
pub mod Days
pub mod ByLookup
mod FirstAndLast
pub mod ReadBack
pub mod StaleAt
pub mod ByImage
pub mod Walked
pub mod DatesRise
pub mod Order
pub mod Answered
pub mod Calls
