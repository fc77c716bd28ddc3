-- One answer for each input of each call, by groups.
-- every scale, by tools/write-scales
pub mod Gps
pub mod Utc
pub mod Glonass
pub mod Tai
pub mod Galileo
pub mod Beidou
-- end of every scale
-- scales with weeks, by tools/write-scales
pub mod GpsWeeks
pub mod GalileoWeeks
pub mod BeidouWeeks
-- end of scales with weeks
-- shifted scales, by tools/write-scales
pub mod GalileoConversions
pub mod BeidouConversions
-- end of shifted scales
pub mod GpsTai
pub mod GalileoBeidou
pub mod GlonassDays
pub mod UtcUnix
pub mod Durations
pub mod CivilDates
pub mod CivilTimes
pub mod CivilReadings
pub mod ByBuiltin
pub mod ByTable
pub mod LeapTables
pub mod LeapFiles
pub mod LeapEvents
pub mod LeapLists
