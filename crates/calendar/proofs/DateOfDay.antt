-- A year and a month that hold a day give the day's date: it is real, and its Unix day is the day.
use Prim.Native.Nat.{ℕ, zero, suc, ◌+◌, ◌-◌, ◌≤◌, ◌<◌}
use mathlib.Core.Path.{◌≡◌, refl, ap, sym, ◌∙◌, subst}
use mathlib.Core.Bool.{cond}
use native.Mathlib.Omega.{arith}
use native.Mathlib.Decide.{ℕ_discrete}
use borrow.Author.Tests.{lt-ltb, le-ltb}
use lib.IntN.{pos, sub_ℕ}
use Rattle.counts.proofs.Difference.{not_below}
use Rattle.calendar.specs.Calendar.{on, leap, days_in, date_of}
use Rattle.calendar.proofs.RealDates.{Real}
use Rattle.calendar.specs.Formula.{day_of, from_march, month_start}
use Rattle.calendar.specs.March.{days_in_years, march_of, InYear, InMonth}
use Rattle.calendar.proofs.MarchYears.{year_ending, at_most_366}
use Rattle.calendar.proofs.Months.{start, month_length_lem, february}
use Rattle.calendar.proofs.Eras.{counted}
use Rattle.calendar.proofs.CalendarTheorems.{date_of_day}

pub within_366 : (z y k : ℕ) → InYear z y k → k < 366
within_366 z y k h = sums (days_in_years y) (days_in_years (suc y)) h.begun h.ahead (at_most_366 y)
  where
    sums : (a b : ℕ) → a + k ≡ z → z < b → b ≤ a + 366 → k < 366
    sums a b e l m = omega arith

-- day k, counted from a start s, of d days
counts_to : (k s d t : ℕ) → s ≤ k → k < t → t ≡ s + d → k - s + 1 ≤ d
counts_to k s d t h l e = omega arith

-- day z, from 0000-03-01 on, is day k of its year and lies in the month m of the calendar's year n
module _ (z n m k : ℕ) (low : 1 ≤ n) (from : 1 ≤ m) (to : m ≤ 12) (in_year : InYear z (march_of n m) k)
    (in_month : InMonth k (from_march m)) where
  abbrev day : ℕ
  day = k - start m + 1

  in_february : m ≡ 2 → k < cond (leap (pos n)) 366 365
  in_february e =
      let y = subst (λ (j : ℕ). InYear z (march_of n j) k) e in_year in
      sums (days_in_years (n - 1)) _ (cond (leap (pos n)) 366 365) (year_ending n low) y.begun
      (subst (λ (j : ℕ). z < days_in_years j) (omega arith) y.ahead)
    where
      sums : (a b c : ℕ) → b ≡ a + c → a + k ≡ z → z < b → k < c
      sums a b c e f g = omega arith

  fits : Dec (m ≡ 2) → day ≤ days_in (leap (pos n)) m
  fits (no two) =
      counts_to k (start m) _ _ in_month.begun in_month.ahead (month_length_lem (leap (pos n)) m from to two)
  fits (yes e) =
      counts_to k (start m) _ _ in_month.begun (in_february e)
      (sym (subst (λ (j : ℕ). start j + days_in (leap (pos n)) j ≡ cond (leap (pos n)) 366 365) (sym e)
      (february (leap (pos n)))))

  real : Real (on (pos n) m day)
  real = record { month_from = from; month_to = to; day-from = omega arith; day_to = fits (ℕ_discrete m 2) }

  unix-day : (u : ℕ) → u + 719468 ≡ z → day_of (on (pos n) m day) ≡ pos u
  unix-day u e =
      counted (pos n) m day n 0 (sym (not_below n 0 (omega arith) ∙ ap pos (omega arith))) low
      ∙ ap (λ (j : ℕ). sub_ℕ j 719469) (sums (days_in_years (march_of n m)) (start m) in_year.begun in_month.begun)
      ∙ not_below (u + 719469) 719469 (omega arith) ∙ ap pos (omega arith)
    where
      sums : (a s : ℕ) → a + k ≡ z → s ≤ k → a + (s + (k - s + 1)) ≡ u + 719469
      sums a s f l = omega arith

  pub dated : (u : ℕ) → u + 719468 ≡ z → on (pos n) m day ≡ date_of (pos u)
  dated u e = sym (ap date_of (sym (unix-day u e)) ∙ date_of_day (on (pos n) m day) real)

-- ---- by the month from March on that holds the day
module _ (z u y mp k s : ℕ) (e : u + 719468 ≡ z) (in_year : InYear z y k) (in_month : InMonth k mp)
    (at : s ≡ month_start mp) where
  some_year : 1 ≤ y
  some_year = not_first y in_year
    where
      not_first : (y : ℕ) → InYear z y k → 1 ≤ y
      not_first zero h = absurd (omega (arith, within_366 z 0 k h, h.begun))
      not_first (suc y) h = omega arith

  -- March to December
  pub early : mp < 10 → on (pos y) (mp + 3) (k - s + 1) ≡ date_of (pos u)
  early h =
      (λ i. on (pos y) (mp + 3) (k - (at ∙ ap month_start (sym month)) i + 1))
      ∙ dated z y (mp + 3) k some_year (omega arith) (omega arith) (subst (λ (n : ℕ). InYear z n k) (sym year) in_year)
      (subst (InMonth k) (sym month) in_month) u e
    where
      month : from_march (mp + 3) ≡ mp
      month = rw (lt-ltb 2 (mp + 3) (omega arith)) (omega arith)

      year : march_of y (mp + 3) ≡ y
      year = rw (lt-ltb 2 (mp + 3) (omega arith)) refl

  -- January and February, of the next year
  pub late : 10 ≤ mp → on (pos (y + 1)) (mp - 9) (k - s + 1) ≡ date_of (pos u)
  late h =
      (λ i. on (pos (y + 1)) (mp - 9) (k - (at ∙ ap month_start (sym month)) i + 1))
      ∙ dated z (y + 1) (mp - 9) k (omega arith) (omega arith) (omega (arith, in_month.few))
      (subst (λ (n : ℕ). InYear z n k) (sym year) in_year) (subst (InMonth k) (sym month) in_month) u e
    where
      month : from_march (mp - 9) ≡ mp
      month = rw (le-ltb 2 (mp - 9) (omega (arith, in_month.few))) (omega arith)

      year : march_of (y + 1) (mp - 9) ≡ y
      year = rw (le-ltb 2 (mp - 9) (omega (arith, in_month.few))) (omega arith)
