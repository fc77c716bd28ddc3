pub mod InRange
pub mod CivilTheorems
pub mod Tells
pub mod Calls
