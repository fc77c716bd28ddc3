pub mod Between
pub mod Fields
pub mod WayBack
pub mod Years
pub mod Calls
