pub mod Lines
pub mod Ends
