pub mod Gpscivil
pub mod Civilgps
