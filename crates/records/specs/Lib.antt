pub mod Records
pub mod Judged
