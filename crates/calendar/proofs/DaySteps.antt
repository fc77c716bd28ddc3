-- From one date of the calendar to the next the formula's day goes up by one, and only 1970-01-01 is day 0.
use mathlib.Core.Path.{◌≡◌, refl, ap, sym, ◌∙◌, subst}
use mathlib.Core.Logic.{◌≢◌}
use mathlib.Core.Bool.{Bool}
use Prim.Native.Nat.{ℕ, suc, ◌+◌, ◌-◌, ◌*◌, ◌≤◌, ◌<◌}
use native.Mathlib.Omega.{arith}
use native.Mathlib.Decide.{ℕ_discrete, dec_lt}
use borrow.Author.Tests.{lt-ltb, le-ltb}
use lib.IntN.{ℤ, pos, suc_ℤ, pred_ℤ, sub_ℕ, pred-suc}
use Rattle.counts.proofs.Difference.{not_below}
use Rattle.calendar.specs.Calendar.{Date, on, leap, days_in, next, prev, unix_epoch}
use Rattle.calendar.proofs.RealDates.{Real}
use Rattle.calendar.specs.Formula.{day_of, formula, from_march, month_start}
use Rattle.calendar.specs.March.{days_in_years, march_of, epoch_number}
use Rattle.calendar.proofs.Sums.{one_more, is_natural}
use Rattle.calendar.proofs.MarchYears.{year_ending}
use Rattle.calendar.proofs.Months.{start, month_length_lem, february, in_year, january}
use Rattle.calendar.proofs.Eras.{Above, above, same_leap, day_number, counted}
use Rattle.calendar.proofs.DayByDay.{after, prev_real, next-prev}

-- ---- in naturals
module _ (n : ℕ) (low : 1 ≤ n) where
  day-on : (m d : ℕ) → day_number n m (d + 1) ≡ day_number n m d + 1
  day-on m d = sums (days_in_years (march_of n m)) (month_start (from_march m)) d
    where
      sums : (a b d : ℕ) → a + (b + (d + 1)) ≡ a + (b + d) + 1
      sums a b d = omega arith

  -- from the last of February to 1 March
  march : day_number n 3 1 ≡ day_number n 2 (days_in (leap (pos n)) 2) + 1
  march = sums (days_in_years n) (days_in_years (n - 1)) _ _ (february (leap (pos n))) (year_ending n low)
    where
      sums : (a b d k : ℕ) → 337 + d ≡ k → a ≡ b + k → a + (0 + 1) ≡ b + (337 + d) + 1
      sums a b d k e f = omega arith

  month_on : (m : ℕ) → 1 ≤ m → m < 12 → day_number n (m + 1) 1 ≡ day_number n m (days_in (leap (pos n)) m) + 1
  month_on m from to = by_month (ℕ_discrete m 2)
    where
      same_side : (m ≢ 2) → Dec (m < 2) → (march_of n (m + 1) ≡ march_of n m) × (from_march (m + 1) ≡ suc (from_march m))
      same_side two (yes l) = rw (le-ltb 2 (m + 1) (omega arith), le-ltb 2 m (omega arith)) (refl, omega arith)
      same_side two (no g) =
          let h : 2 < m = omega (arith, two, g) in
          rw (lt-ltb 2 (m + 1) (omega arith), lt-ltb 2 m h) (refl, omega arith)

      sums : (a b c d : ℕ) → b ≡ c + d → a + (b + 1) ≡ a + (c + d) + 1
      sums a b c d e = omega arith

      by_month : Dec (m ≡ 2) → day_number n (m + 1) 1 ≡ day_number n m (days_in (leap (pos n)) m) + 1
      by_month (yes e) =
          subst (λ (k : ℕ). day_number n (k + 1) 1 ≡ day_number n k (days_in (leap (pos n)) k) + 1) (sym e) march
      by_month (no two) =
          let s = same_side two (dec_lt m 2) in
          (λ i. days_in_years (s.0 i) + (month_start (s.1 i) + 1))
          ∙ sums (days_in_years (march_of n m)) _ _ _ (month_length_lem (leap (pos n)) m from (omega arith) two)

  year_on : day_number (n + 1) 1 1 ≡ day_number n 12 31 + 1
  year_on = ap (λ (k : ℕ). days_in_years k + 307) back ∙ sums (days_in_years n)
    where
      back : n + 1 - 1 ≡ n
      back = omega arith

      sums : (a : ℕ) → a + 307 ≡ a + 306 + 1
      sums a = omega arith

-- ---- of dates
pub next-day : (d : Date) → Real d → day_of (next d) ≡ suc_ℤ (day_of d)
next-day d r =
    after (λ e. day_of e ≡ suc_ℤ (day_of d)) d.year d.month d.day r
    (λ h. goes d.year a.years d.month (d.day + 1) a.is a.low
    (day-on a.years a.low d.month d.day))
    (λ h k. goes d.year a.years (d.month + 1) 1 a.is a.low
    (month_on a.years a.low d.month r.month_from k ∙ ap (λ (n : ℕ). day_number a.years d.month n + 1)
    (sym (h ∙ ap (λ (l : Bool). days_in l d.month) leap-alike))))
    (λ h k. goes (suc_ℤ d.year) (a.years + 1) 1 1 (ap suc_ℤ a.is ∙ one_more a.years (400 * a.eras))
    (omega arith)
    (year_on a.years a.low ∙ (λ i. day_number a.years (sym k i) (sym h i) + 1)))
  where
    a : Above d.year
    a = above d.year

    leap-alike : leap d.year ≡ leap (pos a.years)
    leap-alike = ap leap a.is ∙ same_leap a.years a.eras

    goes : (y : ℤ) (n m k : ℕ) → y ≡ sub_ℕ n (400 * a.eras) → 1 ≤ n
        → day_number n m k ≡ day_number a.years d.month d.day + 1 → formula y m k ≡ suc_ℤ (day_of d)
    goes y n m k is low e =
        counted y m k n a.eras is low ∙ ap (λ (x : ℕ). sub_ℕ x (epoch_number a.eras)) e
        ∙ sym (ap suc_ℤ (counted d.year d.month d.day a.years a.eras a.is a.low)
        ∙ one_more _ (epoch_number a.eras))

pub prev-day : (d : Date) → Real d → day_of (prev d) ≡ pred_ℤ (day_of d)
prev-day d r =
    sym (pred-suc (day_of (prev d))) ∙ ap pred_ℤ (sym (next-day (prev d) (prev_real d r)) ∙ ap day_of (next-prev d r))

-- ---- day 0
only_year : (y k e : ℕ) → 1 ≤ k → k ≤ 366 → days_in_years y + k ≡ 146097 * e + 719469 → y ≡ 400 * e + 1969
only_year y k e low high h = omega arith

until_1969 : (e : ℕ) → days_in_years (400 * e + 1969) ≡ 146097 * e + 719162
until_1969 e = omega arith

pub day_zero : (d : Date) → Real d → day_of d ≡ pos 0 → d ≡ unix_epoch
day_zero d r h = λ i. on (year i) (first i) (day i)
  where
    a : Above d.year
    a = above d.year

    march_year_lem : ℕ
    march_year_lem = march_of a.years d.month

    whole : days_in_years march_year_lem + (start d.month + d.day) ≡ epoch_number a.eras
    whole =
        is_natural (day_number a.years d.month d.day) (epoch_number a.eras) 0
        (sym (counted d.year d.month d.day a.years a.eras a.is a.low) ∙ h)
        ∙ no_more (epoch_number a.eras)
      where
        no_more : (n : ℕ) → n + 0 ≡ n
        no_more n = omega arith

    year_is : march_year_lem ≡ 400 * a.eras + 1969
    year_is =
        only_year march_year_lem (start d.month + d.day) a.eras (omega (arith, r.day-from))
        (in_year (leap d.year) d.month d.day r.month_to r.day_to) whole

    of_year : start d.month + d.day ≡ 307
    of_year =
        rest (days_in_years march_year_lem) (start d.month + d.day) a.eras
        (ap days_in_years year_is ∙ until_1969 a.eras) whole
      where
        rest : (y k e : ℕ) → y ≡ 146097 * e + 719162 → y + k ≡ 146097 * e + 719469 → k ≡ 307
        rest y k e f g = omega arith

    first : d.month ≡ 1
    first = january (leap d.year) d.month d.day r.month_to r.day-from r.day_to of_year

    day : d.day ≡ 1
    day = rest d.day (ap (λ (m : ℕ). start m + d.day) (sym first) ∙ of_year)
      where
        rest : (k : ℕ) → 306 + k ≡ 307 → k ≡ 1
        rest k e = omega arith

    year : d.year ≡ pos 1970
    year =
        a.is ∙ ap (λ (n : ℕ). sub_ℕ n (400 * a.eras))
        (next_year a.years a.eras a.low (ap (march_of a.years) (sym first) ∙ year_is))
        ∙ not_below (400 * a.eras + 1970) (400 * a.eras) (omega arith) ∙ ap pos (omega arith)
      where
        next_year : (n e : ℕ) → 1 ≤ n → n - 1 ≡ 400 * e + 1969 → n ≡ 400 * e + 1970
        next_year n e low h = omega arith
