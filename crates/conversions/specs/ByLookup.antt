-- The conversions in the parts that a store calls, on outcomes: what a step before refused stays refused. Only
-- contracts of functions in `inner` cite these definitions; proofs/ByLookup.antt says that they make up the
-- conversions.
use Rattle.std.specs.Prelude.{Bool, ℕ, ℤ, pos, ◌+ℤ◌, ◌-ℤ◌}
use Rattle.refusals.specs.Outcome.{Outcome, value_in, then, changed}
use Rattle.counts.specs.Exact.{count_of}
use Rattle.tables.specs.Expiry.{dated}
use Rattle.tables.specs.declared.Lookup.{Lookup}
use Rattle.conversions.specs.Conversions.{E, in_nanos, in_range, gps_at_offset, first_reading, second_reading}

-- UTC = TAI − n s + E
abbrev pub utc_of_tai : ℤ → ℕ → Outcome ℕ
utc_of_tai n tai = in_range n (count_of (pos tai -ℤ in_nanos n +ℤ pos E))

-- a TAI reading as UTC, by what a lookup there tells
abbrev pub utc_from_lookup : Outcome ℕ → Lookup → Outcome ℕ
utc_from_lookup tai found = then tai (utc_of_tai found.offset)

-- the reading for the first lookup of a UTC count: 0 where there is none
abbrev pub first_for : Outcome ℕ → ℕ
first_for utc = value_in 0 (changed first_reading utc)

-- the reading for the last one, by what the first told at a
abbrev pub last_for : Outcome ℕ → Lookup → ℕ → ℕ
last_for utc first a = value_in a (changed (λ u. second_reading u first.offset a) utc)

-- a UTC count as GPS, by what the last lookup tells
abbrev pub gps_from_lookup : Lookup → Outcome ℕ → Outcome ℕ
gps_from_lookup found utc = then utc (gps_at_offset found.offset)

-- ---- a step after a conversion by a table; a refusal is never stale
abbrev pub then_dated : Outcome ℕ × Bool → (ℕ → Outcome ℕ) → Outcome ℕ × Bool
then_dated x next = dated x.1 (then x.0 next)

abbrev pub changed_dated : (ℕ → ℤ) → Outcome ℕ × Bool → Outcome ℤ × Bool
changed_dated f x = (changed f x.0, x.1)
