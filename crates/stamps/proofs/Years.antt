-- The form of a day from 1970 to 9999: its year has four digits, so its fields fit. A UTC count is on such a day, and
-- its fields are read back from the form.
use mathlib.Core.Path.{◌≡◌, refl, ap, subst}
use mathlib.Core.Bool.{Bool, true, false}
use Prim.Native.Nat.{ℕ, ◌+◌, ◌/◌, ◌%◌, ◌<◌, ◌^◌}
use native.Mathlib.Omega.{arith}
use borrow.Author.Rules.{rules}
use lib.Dec.{T, leb, leb→le, ltb→lt}
use lib.IntN.{ℤ, pos, negsuc, nat_abs}
use lib.Signed.{lt_z}
use Rattle.calendar.specs.Calendar.{Date, on, leap, days_in, date_of}
use Rattle.calendar.specs.Formula.{era, yoe, doy, doe, formula}
use Rattle.calendar.proofs.Tested.{every, at}
use Rattle.calendar.proofs.RealDates.{real}
use Rattle.calendar.proofs.CalendarTheorems.{real_date, date_of_day}
use Rattle.calendar.proofs.DateOrder.{Before, by_year, by_month, by_day, later_dates}
use Rattle.civil.specs.Fields.{fields_on, fields_of}
use Rattle.refusals.specs.Outcome.{answered}
use Rattle.stamps.specs.Form.{Fits, written, stamp_read}
use Rattle.stamps.proofs.WayBack.{written-reads}

-- the last date whose year has four digits, and its Unix day
last-day : date_of (pos 2932896) ≡ on (pos 9999) 12 31
unfolding days_in era yoe doy doe formula
last-day = date_of_day (on (pos 9999) 12 31) (real (on (pos 9999) 12 31) tt)

-- where a date is before another, its year is, or is the same
by_years : {a b : Date} {P : Type 0} → (T (lt_z a.year b.year) → P) → (a.year ≡ b.year → P) → Before a b → P
by_years earlier same (by_year p) = earlier p.lt
by_years earlier same (by_month e q) = same e
by_years earlier same (by_day e f q) = same e

-- a year after 1970 is a natural number
natural : (y : ℤ) → T (lt_z (pos 1970) y) → y ≡ pos (nat_abs y)
natural (pos k) t = refl
natural (negsuc k) t = absurd t

-- no month has more than 31 days
abbrev short : Bool → ℕ → Bool
short l m = leb (days_in l m) 31

tested_short : (l : Bool) → T (every (short l) 13)
unfolding days_in
tested_short true = tt
tested_short false = tt

-- a time of day on a day after 1970-01-01 and before 9999-12-31
module _ (day s n : ℕ) (since : 0 < day) (few : day < 2932896) (part : n < 10 ^ 9) where
  abbrev date : Date
  date = date_of (pos day)

  year_is : date.year ≡ pos (nat_abs date.year)
  unfolding date_of
  year_is =
      by_years (natural date.year) (λ e. subst (λ (y : ℤ). y ≡ pos (nat_abs y)) e refl)
      (later_dates 0 day (omega arith))

  four-digits : nat_abs date.year < 10 ^ 4
  four-digits =
      by_years
      (λ t. omega (arith, ltb→lt (nat_abs date.year) 9999 (subst (λ (y : ℤ). T (lt_z y (pos 9999))) year_is t)))
      (λ e. omega (arith, ap nat_abs e))
      (subst (λ (d : Date). Before date d) last-day (later_dates day 2932896 (omega arith)))

  pub fits_on_day : Fits (fields_on date s n)
  fits_on_day =
      let r = real_date (pos day) in
      let l = leap date.year in
      let tested = at (short l) 13 (tested_short l) date.month (omega (arith, r.month_to)) in
      let most = leb→le (days_in l date.month) 31 tested in
      let is = year_is in
      let few = four-digits in
      search rules

module _ (n : ℕ) (count : n < 2 ^ 64) where
  pub fits_form : Fits (fields_of n)
  fits_form =
      fits_on_day (n / 1000000000 / 86400 + 730) (n / 1000000000) (n % 1000000000) (omega arith) (omega arith)
      (omega arith)

  pub form_reads_back : stamp_read (written (fields_of n)) ≡ answered (fields_of n)
  form_reads_back = written-reads (fields_of n) fits_form
