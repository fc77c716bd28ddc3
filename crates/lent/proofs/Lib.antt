pub mod Passing
pub mod AnswersByPass
pub mod Agreement
pub mod Stated
pub mod Calls
pub mod GrowsInPlace
