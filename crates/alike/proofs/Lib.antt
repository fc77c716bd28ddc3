pub mod Parted
pub mod Calls
