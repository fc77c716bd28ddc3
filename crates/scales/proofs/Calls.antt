-- One answer for each input of each call, by groups.
pub mod Gps
pub mod Utc
pub mod Glonass
pub mod Tai
pub mod Galileo
pub mod Beidou
pub mod GpsWeeks
pub mod GalileoWeeks
pub mod BeidouWeeks
pub mod GalileoGps
pub mod BeidouGps
pub mod GpsTai
pub mod GalileoBeidou
pub mod GlonassDays
pub mod UtcUnix
pub mod Durations
