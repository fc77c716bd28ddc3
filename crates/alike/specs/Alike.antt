-- How far two lists of entries convert alike: where they part, and from which counts on that may change an answer.
use Rattle.std.specs.Prelude.{Bool, true, false, cond, ◌&&◌, List, [], ◌∷◌, ℕ, eqb, leb, ℤ, pos, ◌+ℤ◌, ◌-ℤ◌}
use Rattle.refusals.specs.Outcome.{Outcome, answered, then, changed}
use Rattle.counts.specs.Exact.{count_of, up, down}
use Rattle.counts.specs.Units.{second}
use Rattle.scales.specs.Scales.{tai_minus_gps}
use Rattle.tables.specs.Entries.{Entry, threshold, offset, equal, regular}
use Rattle.conversions.specs.Conversions.{E, in_nanos}
use Rattle.alike.specs.declared.Counts.{Counts}
use Rattle.alike.specs.declared.Alike.{Alike}
use Rattle.alike.specs.declared.Alike.TheVariants as how
use Rattle.alike.specs.declared.inner.Parting.{Parting}
use Rattle.alike.specs.declared.inner.Parting.TheVariants as parts

-- the event of an entry, as a UTC count: the threshold less the offset in seconds, plus E
abbrev pub event : Entry → ℤ
event e = pos (threshold e) -ℤ in_nanos (offset e) +ℤ pos E

abbrev pub counts : ℕ → ℕ → Counts
counts g u = record { gps = g; utc = u }

-- the GPS count at the threshold of an entry, and the UTC count one second past its event; 1 where there is none
abbrev pub counts_from : Entry → Outcome Counts
counts_from e = then (down tai_minus_gps (threshold e)) (λ g. changed (counts g) (then (count_of (event e)) (up second)))

abbrev pub same_entry : Entry → Entry → Bool
same_entry e f = eqb (threshold e) (threshold f) && equal (offset e) (offset f)

abbrev pub earlier : Entry → Entry → Entry
earlier e f = cond (leb (threshold e) (threshold f)) e f

-- where two lists part: nowhere, at the first entry that one has after the other, or at the earlier of two that differ
unfoldable pub parting : List Entry → List Entry → Parting
parting [] [] = parts.Nowhere
parting [] (f ∷ fs) = parts.Onward f
parting (e ∷ es) [] = parts.Onward e
parting (e ∷ es) (f ∷ fs) = cond (same_entry e f) (parting es fs) (parts.Apart (earlier e f))

-- and what is told of it: of different lists only where both are regular
abbrev pub told : Bool → Parting → Outcome Alike
told r parts.Nowhere = answered how.Everywhere
told true (parts.Onward e) = changed how.Before (counts_from e)
told true (parts.Apart e) = changed how.Apart (counts_from e)
told false (parts.Onward e) = answered how.Irregular
told false (parts.Apart e) = answered how.Irregular

abbrev pub alike : List Entry → List Entry → Outcome Alike
alike es fs = told (regular es && regular fs) (parting es fs)
