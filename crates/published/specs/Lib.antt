pub mod LeapSecondsList
pub mod Places
