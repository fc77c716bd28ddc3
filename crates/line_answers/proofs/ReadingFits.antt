-- What a line reads to fits the form: a GPS count of 64 bits is on a day before the year 2565.
use mathlib.Core.Path.{◌≡◌, refl, subst}
use mathlib.Core.Bool.{Bool, true, false, cond, ◌&&◌}
use mathlib.Core.List.{List}
use Prim.Native.Nat.{ℕ, ◌*◌, ◌/◌, ◌%◌, ◌^◌, ◌<◌}
use native.Mathlib.Omega.{arith}
use borrow.Author.Tests.{ltb-true}
use lib.Dec.{leb, ltb}
use lib.ListN.{length}
use Rattle.refusals.specs.Outcome.{Outcome, answered, refused, then}
use Rattle.refusals.proofs.Given.{no_refusal}
use Rattle.counts.specs.Units.{second, day_seconds}
use Rattle.civil.specs.Fields.{fields}
use Rattle.civil.specs.declared.CivilDateTime.{CivilDateTime}
use Rattle.builtin.specs.Builtin.{builtin}
use Rattle.builtin.proofs.Regular.{builtin_on_days}
use Rattle.readings.specs.Readings.{day_of_gps, fields_in_day, reading_of, gps_to_civil}
use Rattle.readings.proofs.Days.{day-of}
use Rattle.readings.proofs.Answered.{is_reading}
use Rattle.words.specs.Decimal.{all_digits, value_of, count_read}
use Rattle.stamps.specs.Form.{Fits}
use Rattle.stamps.proofs.Years.{fits_on_day}
use Rattle.line_answers.specs.Gpscivil.{reading_of_line}

-- fields that fit, or 23:59:60 in their place
or_sixty : {c : CivilDateTime} (q : Bool) → Fits c
    → Fits (cond q c (fields c.year c.month c.day 23 59 60 c.nanos))
or_sixty true f = f
or_sixty false f = record {
  natural = f.natural;
  year = f.year;
  month = f.month;
  day = f.day;
  hour = omega arith;
  minute = omega arith;
  second = omega arith;
  nanos = f.nanos;
}

-- on a day after 1970-01-01 and before 9999-12-31
fits_in_day : (z n : ℕ) → 0 < z → z < 2932896 → Fits (fields_in_day z n)
fits_in_day z n since few =
    or_sixty (ltb n (day_seconds * second)) (fits_on_day z (n / second) (n % second) since few (omega arith))

pub reading_fits : (gps : ℕ) → gps < 2 ^ 64 → Fits (reading_of builtin gps)
reading_fits gps h =
    let d = day-of builtin builtin_on_days gps in
    fits_in_day (day_of_gps builtin gps).0 (day_of_gps builtin gps).1 (omega (arith, d.from)) (omega (arith, d.exact))

-- a count in digits has 64 bits
count_below : (l : List ℕ) (gps : ℕ) → count_read l ≡ answered gps → gps < 2 ^ 64
count_below l gps = go (ltb 0 (length l) && leb (length l) 20) (all_digits l) (ltb (value_of l) (2 ^ 64)) refl
  where
    go : (p d q : Bool) → ltb (value_of l) (2 ^ 64) ≡ q
        → cond (p && (d && q)) (answered (value_of l)) (refused 10) ≡ answered gps → gps < 2 ^ 64
    go true true true is e = let value : value_of l ≡ gps = cc in omega (arith, ltb-true (value_of l) (2 ^ 64) is)
    go true true false is e = absurd (no_refusal _ e refl)
    go true false q is e = absurd (no_refusal _ e refl)
    go false d q is e = absurd (no_refusal _ e refl)

pub line_fits : (l : List ℕ) (c : CivilDateTime) → reading_of_line l ≡ answered c → Fits c
unfolding reading_of_line
line_fits l c = go (count_read l) (count_below l)
  where
    go : (o : Outcome ℕ) → ((gps : ℕ) → o ≡ answered gps → gps < 2 ^ 64)
        → then o (gps_to_civil builtin) ≡ answered c → Fits c
    go (answered gps) few e = subst Fits (is_reading builtin gps c e) (reading_fits gps (few gps refl))
    go (refused k) few e = absurd (no_refusal _ e refl)
