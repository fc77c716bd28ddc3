pub mod Conversions
pub mod Shifted
pub mod ByLookup
pub mod Answers
