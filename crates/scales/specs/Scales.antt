-- TAI − GPS, GPS − Galileo and GPS − BeiDou, and the weekday of a GLONASS count.
use Rattle.std.specs.Prelude.{ℕ, ◌+◌, ◌*◌, ◌/◌, ◌%◌}
use Rattle.counts.specs.Units.{second, day_seconds}

-- TAI is 19 s ahead of GPS
abbrev pub tai_minus_gps : ℕ
tai_minus_gps = 19 * second

-- a Galileo count and 619,315,200 s is the GPS count
abbrev pub gps_minus_galileo : ℕ
gps_minus_galileo = 619_315_200 * second

-- a BeiDou count and 820,108,814 s is the GPS count
abbrev pub gps_minus_beidou : ℕ
gps_minus_beidou = 820_108_814 * second

-- the weekday of a GLONASS count: 1 for Monday, and day 0 is one
abbrev pub weekday_of : ℕ → ℕ
weekday_of n = n / (day_seconds * second) % 7 + 1
