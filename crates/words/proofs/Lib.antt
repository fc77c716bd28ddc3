pub mod Bytes
pub mod Complement
pub mod Inverses
pub mod Stores
pub mod Reading
pub mod Writing
pub mod WayBack
pub mod Calls
