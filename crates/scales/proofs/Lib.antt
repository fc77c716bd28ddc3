pub mod Tells
pub mod Calls
