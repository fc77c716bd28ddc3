pub mod ReadingFits
pub mod GpscivilInput
pub mod CivilgpsInput
pub mod Calls
