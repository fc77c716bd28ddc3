pub mod Report
pub mod Since
pub mod Writing
pub mod Runs
