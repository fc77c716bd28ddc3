-- The reading of a GPS count by what a lookup at its TAI reading tells. Only contracts of functions in `inner` cite
-- these definitions; proofs/ByLookup.antt says that they give the readings.
use Rattle.std.specs.Prelude.{Bool, false, cond, ◌&&◌, ℕ, ◌+◌, ◌-◌, eqb, leb, None, Option, Some}
use Rattle.refusals.specs.Outcome.{Outcome, answered, refused, value_in, then}
use Rattle.counts.specs.Exact.{up}
use Rattle.counts.specs.Units.{second}
use Rattle.scales.specs.Scales.{tai_minus_gps}
use Rattle.civil.specs.Fields.{fields, fields_of}
use Rattle.civil.specs.declared.CivilDateTime.{CivilDateTime}
use Rattle.tables.specs.declared.Lookup.{Lookup}
use Rattle.readings.specs.Readings.{same_fields}

-- a threshold, which is above the TAI reading t, is at most a second above it
abbrev pub near_before : Option ℕ → ℕ → Bool
near_before (Some x) t = leb x (t + second)
near_before None t = false

-- the fields of the second before a UTC count, with 60 in place of 59
abbrev pub sixty : ℕ → CivilDateTime
sixty utc =
    let c = fields_of (utc - second) in
    fields c.year c.month c.day c.hour c.minute (c.second + 1) c.nanos

-- fields are in the first second of a day
abbrev pub in_first_second : CivilDateTime → Bool
in_first_second c = eqb c.hour 0 && eqb c.minute 0 && eqb c.second 0

-- the reading of a TAI reading that has this UTC count, by what a lookup there tells
abbrev pub reading_from : Lookup → (tai utc : ℕ) → CivilDateTime
reading_from found tai utc =
    cond (in_first_second (fields_of utc) && near_before found.next tai) (sixty utc) (fields_of utc)

-- a GPS count, or the one a second later where the next threshold is in between
abbrev pub later_from : Lookup → (tai gps : ℕ) → Outcome ℕ
later_from found tai gps = cond (near_before found.next tai) (up second gps) (answered gps)

-- a GPS count that has this UTC count, if it is read as these fields, and else 14
abbrev pub read_so_from : Lookup → (tai utc : ℕ) → CivilDateTime → Outcome ℕ → Outcome ℕ
read_so_from found tai utc c (answered gps) = cond (same_fields (reading_from found tai utc) c) (answered gps) (refused 14)
read_so_from found tai utc c (refused k) = refused 14

-- fields that exist to GPS, by their UTC count, the first GPS count that has it, and what a lookup at its TAI reading tells
abbrev pub back_from : CivilDateTime → (utc first : Outcome ℕ) → Lookup → Outcome ℕ
back_from c utc first found =
    let tai = value_in 0 (then first (up tai_minus_gps)) in
    cond (eqb c.second 60) (read_so_from found tai (value_in 0 utc) c first) (then first (later_from found tai))
