pub mod Limits
pub mod Tables
