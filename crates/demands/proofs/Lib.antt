mod WayBack
mod SameAnswers
pub mod AnswerOrRefusal
mod SameReadings
pub mod FixedDifference
pub mod Shifted
pub mod Demand1
pub mod Demand3
pub mod Demand3Shifted
pub mod EveryExample
pub mod InsertedSecond
pub mod Pinned
pub mod Stale
pub mod CivilReadings
pub mod ReadingCalls
pub mod RoundTrips
