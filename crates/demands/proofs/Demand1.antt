-- Demand 1, call by call: a refusal writes zeros, and a table that is refused an entry does not change.
pub mod EveryScale
pub mod Weeks
pub mod Scales
pub mod CivilTimes
pub mod CivilReadings
pub mod Conversions
pub mod Shifted
pub mod ReadTables
pub mod ReadLists
pub mod WrittenTables
pub mod ReadFiles
pub mod Tables
