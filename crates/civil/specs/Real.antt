-- Which fields exist: a date that the calendar has, and a time of day. Whether a second 60 was inserted is not asked here.
use Rattle.std.specs.Prelude.{Bool, cond, List, [], ◌∷◌, ℕ, ltb, leb, Err, Ok, Result}
use Rattle.std.proofs.Math.Option.{Option, none, some}
use Rattle.refusals.specs.declared.Refusal.{Refusal}
use Rattle.refusals.specs.Number.{number_of}
use Rattle.refusals.specs.Outcome.{Outcome, refused}
use Rattle.counts.specs.Units as units
use Rattle.calendar.specs.Calendar.{has_month, has_day}
use Rattle.civil.specs.Fields.{date_in}
use Rattle.civil.specs.declared.CivilDateTime.{CivilDateTime}

-- the test of each field, in order, and the number of its refusal
abbrev pub field_tests : CivilDateTime → List (Bool × ℕ)
field_tests c =
    (has_month (date_in c), 15) ∷ (has_day (date_in c), 16) ∷ (ltb c.hour 24, 17) ∷ (ltb c.minute 60, 18) ∷
    (leb c.second 60, 19) ∷ (ltb c.nanos units.second, 11) ∷ []

-- the number of the first test that fails
abbrev pub first_failed : List (Bool × ℕ) → Option ℕ
first_failed [] = none
first_failed ((passes, k) ∷ ts) = cond passes (first_failed ts) (some k)

-- the number of the first field that is out of range, if one is
abbrev pub out_of_range : CivilDateTime → Option ℕ
out_of_range c = first_failed (field_tests c)

-- an answer, unless there is a refusal
abbrev pub unless_refused : {A : Type 0} → Option ℕ → Outcome A → Outcome A
unless_refused none a = a
unless_refused (some k) a = refused k

-- an answer to fields that exist
abbrev pub of_real : {A : Type 0} → CivilDateTime → Outcome A → Outcome A
of_real c a = unless_refused (out_of_range c) a

abbrev pub check_in : Result Unit Refusal → Option ℕ
check_in (Ok tt) = none
check_in (Err r) = some (number_of r)
