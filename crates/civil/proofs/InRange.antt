-- Fields of which none is out of range, as facts: the tests say no more and no less.
use mathlib.Core.Path.{◌≡◌, refl}
use mathlib.Core.Bool.{Bool, true, false}
use mathlib.Core.List.{List, [], ◌∷◌}
use mathlib.Core.Option.{none, some-ne-none}
use Prim.Native.Nat.{ℕ, ◌≤◌, ◌<◌}
use borrow.Author.Tests.{lt-ltb, ltb-true, le-leb, leb-true}
use Rattle.counts.specs.Units as units
use Rattle.calendar.proofs.RealDates.{Real, month_passes, day_passes, both_pass}
use Rattle.civil.specs.Fields.{date_in}
use Rattle.civil.specs.Real.{field_tests, first_failed, out_of_range}
use Rattle.civil.specs.declared.CivilDateTime.{CivilDateTime}

-- fields that a clock shows, second 60 among them
pub record InRange (c : CivilDateTime) : Type 0 where
  pub date : Real (date_in c)
  pub hour : c.hour < 24
  pub minute : c.minute < 60
  pub second : c.second ≤ 60
  pub nanos : c.nanos < units.second

-- ---- tests
abbrev AllPass : List (Bool × ℕ) → Type 0
AllPass [] = Unit {0}
AllPass ((passes, k) ∷ ts) = (passes ≡ true) × AllPass ts

all_pass : (ts : List (Bool × ℕ)) → first_failed ts ≡ none → AllPass ts
all_pass [] e = tt
all_pass ((true, k) ∷ ts) e = (refl, all_pass ts e)
all_pass ((false, k) ∷ ts) e = absurd (some-ne-none k e)

-- ---- fields
pub in_range : (c : CivilDateTime) → out_of_range c ≡ none → InRange c
in_range c e =
    let (month, (day, (hour, (minute, (seconds, (nanos, end)))))) = all_pass (field_tests c) e in
    record {
      date = both_pass (date_in c) month day;
      hour = ltb-true c.hour 24 hour;
      minute = ltb-true c.minute 60 minute;
      second = leb-true c.second 60 seconds;
      nanos = ltb-true c.nanos units.second nanos;
    }

pub none_out : (c : CivilDateTime) → InRange c → out_of_range c ≡ none
none_out c r =
    rw (
      month_passes r.date,
      day_passes r.date,
      lt-ltb c.hour 24 r.hour,
      lt-ltb c.minute 60 r.minute,
      le-leb c.second 60 r.second,
      lt-ltb c.nanos units.second r.nanos,
    )
