-- Civil readings of GPS counts, day by day: a day has 86,400 s, and 86,401 s where an inserted second ends it. Only
-- tables are read that are regular and in which every entry after the first begins a day.
use Rattle.std.specs.Prelude.{Bool, false, cond, ◌&&◌, ◌||◌, List, [], ◌∷◌, ℕ, zero, suc, ◌+◌, ◌-◌, ◌/◌, ◌%◌, eqb, ltb, pos, drop}
use Rattle.refusals.specs.Outcome.{Outcome, answered, refused, value_in, then, changed}
use Rattle.counts.specs.Units.{second}
use Rattle.scales.specs.Scales.{tai_minus_gps}
use Rattle.calendar.specs.Calendar.{date_of}
use Rattle.civil.specs.Fields.{fields, fields_on, count_at}
use Rattle.civil.specs.Real.{of_real}
use Rattle.civil.specs.declared.CivilDateTime.{CivilDateTime}
use Rattle.tables.specs.Entries.{Entry, threshold, equal, day, on_days}
use Rattle.conversions.specs.Conversions.{gps_to_utc, utc_to_gps}
use Rattle.conversions.specs.Shifted.{later_of}

-- a call with a table whose entries are not on days: 13
abbrev pub of_days : {A : Type 0} → List Entry → Outcome A → Outcome A
of_days es a = cond (on_days es) a (refused 13)

-- ---- days
-- one of the entries begins at the TAI reading t
unfoldable pub some_begins_at : ℕ → List Entry → Bool
some_begins_at t [] = false
some_begins_at t (e ∷ es) = eqb (threshold e) t || some_begins_at t es

-- the length of the day that begins at the TAI reading b: one second more where an entry after the first begins then
abbrev pub length_of_day : List Entry → ℕ → ℕ
length_of_day es b = cond (some_begins_at (b + (day + second)) (drop 1 es)) (day + second) day

-- the day on which the TAI reading t is, and the nanoseconds of that day before t: Unix day z begins at b, and the day
-- is at most n days after it
unfoldable pub day_from : List Entry → ℕ → (n z b : ℕ) → ℕ × ℕ
day_from es t zero z b = (z, t - b)
day_from es t (suc n) z b =
    cond (ltb t (b + length_of_day es b)) (z, t - b) (day_from es t n (suc z) (b + length_of_day es b))

-- the Unix day of 1980-01-06, where GPS counts begin, at a TAI reading of 19 s
abbrev pub gps_epoch_day : ℕ
gps_epoch_day = 3657

-- the day of a GPS count, and the nanoseconds of that day before it
abbrev pub day_of_gps : List Entry → ℕ → ℕ × ℕ
day_of_gps es gps = day_from es (gps + tai_minus_gps) (gps / day) gps_epoch_day tai_minus_gps

-- the fields n nanoseconds after the beginning of Unix day z: in the 86,401st second 23:59:60
abbrev pub fields_in_day : ℕ → ℕ → CivilDateTime
fields_in_day z n =
    let date = date_of (pos z) in
    cond (ltb n day) (fields_on date (n / second) (n % second))
    (fields date.year date.month date.day 23 59 60 (n % second))

-- the civil reading of a GPS count
abbrev pub reading_of : List Entry → ℕ → CivilDateTime
reading_of es gps = let (z, n) = day_of_gps es gps in fields_in_day z n

-- GPS to civil: 13, and then refused as GPS to UTC is
abbrev pub gps_to_civil : List Entry → ℕ → Outcome CivilDateTime
gps_to_civil es gps = of_days es (changed (λ utc. reading_of es gps) (gps_to_utc es gps))

-- ---- back
-- whether fields are the same, one by one
abbrev pub same_fields : CivilDateTime → CivilDateTime → Bool
same_fields a b =
    equal a.year b.year && eqb a.month b.month && eqb a.day b.day && eqb a.hour b.hour
    && eqb a.minute b.minute && eqb a.second b.second && eqb a.nanos b.nanos

-- UTC to GPS, to the later count where two share the UTC count
abbrev pub utc_to_later : List Entry → ℕ → Outcome ℕ
utc_to_later es utc = changed (λ gps. value_in gps (later_of es gps)) (utc_to_gps es utc)

-- a GPS count that is read as these fields, and else 14
abbrev pub read_so : List Entry → CivilDateTime → Outcome ℕ → Outcome ℕ
read_so es c (answered gps) = cond (same_fields (reading_of es gps) c) (answered gps) (refused 14)
read_so es c (refused k) = refused 14

-- the count of fields that exist: with a second of 60 the count that is read so, and 14 where there is none; and else by
-- their UTC count
abbrev pub count_of_fields : List Entry → CivilDateTime → Outcome ℕ
count_of_fields es c =
    cond (eqb c.second 60) (read_so es c (then (count_at c) (utc_to_gps es))) (then (count_at c) (utc_to_later es))

-- civil to GPS: 13, then 15 to 19 and 11 for the first field that is out of range
abbrev pub civil_to_gps : List Entry → CivilDateTime → Outcome ℕ
civil_to_gps es c = of_days es (of_real c (count_of_fields es c))
