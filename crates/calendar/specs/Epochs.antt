-- The dates of the epochs, and the lengths between them by the days of those dates.
use Rattle.std.specs.Prelude.{ℕ, ◌*◌, ℤ, pos, ◌*ℤ◌}
use Rattle.counts.specs.Units.{second, day_seconds}
use Rattle.calendar.specs.Calendar.{Date, on}
use Rattle.calendar.specs.Dates.{days_between}
use Rattle.calendar.specs.declared.epochs.Epoch.{Epoch}
use Rattle.calendar.specs.declared.epochs.Epoch.TheVariants.{Tai, Unix, Utc, Gps, Glonass, Galileo, Beidou}
use Rattle.calendar.specs.declared.epochs.EpochSpan.{EpochSpan}
use Rattle.calendar.specs.declared.epochs.EpochSpan.TheVariants.{DaysUnixToGps, DaysGpsToGlonass, DaysGpsToGalileo, DaysGpsToBeidou, SecondsUnixToUtc, SecondsUnixToGps, NanosUnixToUtc, NanosGpsToGalileo, NanosGpsToBeidou}

abbrev pub epoch_of : Epoch → Date
epoch_of Tai = on (pos 1958) 1 1
epoch_of Unix = on (pos 1970) 1 1
epoch_of Utc = on (pos 1972) 1 1
epoch_of Gps = on (pos 1980) 1 6
epoch_of Glonass = on (pos 1996) 1 1
epoch_of Galileo = on (pos 1999) 8 22
epoch_of Beidou = on (pos 2006) 1 1

-- from one epoch to another, in a unit of which a day has `unit`
abbrev pub spanning : Epoch → Epoch → ℕ → ℤ
spanning a b unit = days_between (epoch_of a) (epoch_of b) *ℤ pos unit

abbrev pub length_of : EpochSpan → ℤ
length_of DaysUnixToGps = spanning Unix Gps 1
length_of DaysGpsToGlonass = spanning Gps Glonass 1
length_of DaysGpsToGalileo = spanning Gps Galileo 1
length_of DaysGpsToBeidou = spanning Gps Beidou 1
length_of SecondsUnixToUtc = spanning Unix Utc day_seconds
length_of SecondsUnixToGps = spanning Unix Gps day_seconds
length_of NanosUnixToUtc = spanning Unix Utc (day_seconds * second)
length_of NanosGpsToGalileo = spanning Gps Galileo (day_seconds * second)
length_of NanosGpsToBeidou = spanning Gps Beidou (day_seconds * second)
