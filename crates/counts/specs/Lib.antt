pub mod Exact
pub mod Units
pub mod Answers
