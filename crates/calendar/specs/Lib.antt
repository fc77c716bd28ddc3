pub mod Calendar
pub mod Formula
pub mod March
pub mod Dates
pub mod Answers
pub mod Epochs
