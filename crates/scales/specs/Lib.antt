pub mod Answers
pub mod Scales
