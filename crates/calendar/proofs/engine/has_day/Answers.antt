-- `has_day`: past the common length of its month a day is 29 February of a leap year, or none.
use Rattle.std.proofs.Common.{◌≡◌, refl, sym, ap, ◌∙◌, Bool, true, false, ◌&&◌, ℕ, ◌≤◌, ◌<◌, arith, rules, eqb, leb, w32}
use mir.Facts.{to_z-of_z}
use mathlib.Core.Bool.{and-true, and-false}
use native.Mathlib.Decide.{ℕ_discrete}
use borrow.Author.Tests.{le-leb, lt-leb, ne_eqb}
use Rattle.calendar.specs.Calendar.{leap, days_in}
use Rattle.calendar.proofs.Months.{with_leap_day, no_more}
use Rattle.calendar.proofs.engine.has_day.Goals as goal

-- the test of a day, in a leap year or another
abbrev test : Bool → ℕ → ℕ → Bool
test l m d = leb 1 d && leb d (days_in l m)

fails : (l : Bool) (m d : ℕ) → days_in l m < d → false ≡ test l m d
fails l m d h = rw (lt-leb d (days_in l m) h) (sym (and-false (leb 1 d)))

-- a day 0 is before, any other past, the end of a month without days
no_month : (l : Bool) (m d : ℕ) → 12 < m → false ≡ test l m d
no_month l m d h = by_day (ℕ_discrete d 0)
  where
    by_day : Dec (d ≡ 0) → false ≡ test l m d
    by_day (yes e) = rw e refl
    by_day (no n) = fails l m d (omega (arith, n, no_more l m h))

module _ (l : Bool) (m d : ℕ) (to : m ≤ 12) where
  common : days_in false m ≤ days_in l m
  common = omega (arith, with_leap_day l m to)

  within : d ≤ days_in false m → leb 1 d ≡ test l m d
  within h = rw (le-leb d (days_in l m) (omega (arith, common))) (sym (and-true (leb 1 d)))

-- February of a leap year and of another
twenty_ninth : (l : Bool) (d : ℕ) → 28 < d → (eqb d 29 && l) ≡ test l 2 d
unfolding days_in
twenty_ninth false d h = and-false (eqb d 29) ∙ fails false 2 d (omega arith)
twenty_ninth true d h = by_day (ℕ_discrete d 29)
  where
    by_day : Dec (d ≡ 29) → (eqb d 29 && true) ≡ test true 2 d
    by_day (yes e) = rw e refl
    by_day (no n) = rw (ne_eqb d 29 n) (fails true 2 d (omega (arith, n)))

past : (l : Bool) (m d : ℕ) → m ≤ 12 → days_in false m < d → ((eqb m 2 && eqb d 29) && l) ≡ test l m d
unfolding days_in
past l m d to h = by_month (ℕ_discrete m 2)
  where
    by_month : Dec (m ≡ 2) → ((eqb m 2 && eqb d 29) && l) ≡ test l m d
    by_month (yes e) = rw e (twenty_ninth l d (rw e at h))
    by_month (no n) =
        rw (ne_eqb m 2 n)
        (fails l m d (omega (arith, h, rw (ne_eqb m 2 n) at (with_leap_day l m to))))

pub returns-then-date-gt12 : goal.returns-then-date-gt12
returns-then-date-gt12 c =
    let d = c.args.date in
    no_month (leap d.year) d.month d.day c.if-date-gt12.true

pub returns-then-date-common_length : goal.returns-then-date-common_length
returns-then-date-common_length c =
    let d = c.args.date in
    within (leap d.year) d.month d.day (omega arith) (omega (arith, c.if-date-common_length.true, c.common_length.ensures))

pub returns-else-date-common_length : goal.returns-else-date-common_length
returns-else-date-common_length c =
    let d = c.args.date in
    let is : c.is_leap.result ≡ leap d.year = c.is_leap.ensures ∙ ap leap (to_z-of_z {w = w32} {z = d.year} (search rules)) in
    ap (λ (l : Bool). (eqb d.month 2 && eqb d.day 29) && l) is
    ∙ past (leap d.year) d.month d.day (omega arith)
    (omega (arith, c.if-date-common_length.false, c.common_length.ensures))
