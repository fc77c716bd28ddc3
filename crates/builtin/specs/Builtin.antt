-- The built-in table, from the dates of IERS Bulletin C.
use Rattle.std.specs.Prelude.{List, [], ◌∷◌, ℕ, ◌+◌, ℤ, pos, nat_abs, ◌+ℤ◌, ◌-ℤ◌, ◌*ℤ◌}
use Rattle.counts.specs.Units.{second, day_seconds}
use Rattle.calendar.specs.Calendar.{Date, on}
use Rattle.calendar.specs.Formula.{day_of}
use Rattle.tables.specs.Entries.{Entry, entry}

-- the day with which each new offset begins
unfoldable pub events : List Date
events =
    on (pos 1981) 7 1 ∷ on (pos 1982) 7 1 ∷ on (pos 1983) 7 1 ∷
    on (pos 1985) 7 1 ∷ on (pos 1988) 1 1 ∷ on (pos 1990) 1 1 ∷
    on (pos 1991) 1 1 ∷ on (pos 1992) 7 1 ∷ on (pos 1993) 7 1 ∷
    on (pos 1994) 7 1 ∷ on (pos 1996) 1 1 ∷ on (pos 1997) 7 1 ∷
    on (pos 1999) 1 1 ∷ on (pos 2006) 1 1 ∷ on (pos 2009) 1 1 ∷
    on (pos 2012) 7 1 ∷ on (pos 2015) 7 1 ∷ on (pos 2017) 1 1 ∷ []

-- the Unix second of 1980-01-06
abbrev pub gps_epoch_unix : ℕ
gps_epoch_unix = 315_964_800

-- (Unix second of the event − 315,964,800 + offset) × 10⁹
unfoldable pub threshold_of : Date → ℤ → ℤ
threshold_of d n = (day_of d *ℤ pos day_seconds -ℤ pos gps_epoch_unix +ℤ n) *ℤ pos second

-- an entry for each event, with offsets from n on
unfoldable pub entries_from : ℕ → List Date → List Entry
entries_from n [] = []
entries_from n (d ∷ ds) = entry (nat_abs (threshold_of d (pos n))) (pos n) ∷ entries_from (n + 1) ds

unfoldable pub builtin : List Entry
builtin = entry 0 (pos 19) ∷ entries_from 20 events
