pub mod Builtin
pub mod Events
pub mod Reached
