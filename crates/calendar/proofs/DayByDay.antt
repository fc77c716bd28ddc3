-- The date after and the date before undo each other at real dates, and lead to real dates.
use mathlib.Core.Path.{◌≡◌, refl, ap, sym, ◌∙◌}
use mathlib.Core.Bool.{Bool}
use Prim.Native.Nat.{ℕ, ◌+◌, ◌-◌, ◌<◌}
use native.Mathlib.Omega.{arith}
use native.Mathlib.Nat.{add-sub_cancel}
use native.Mathlib.Decide.{dec_lt}
use borrow.Author.Tests.{lt-ltb, le-ltb}
use lib.IntN.{ℤ, suc_ℤ, pred_ℤ, suc-pred, pred-suc}
use Rattle.calendar.specs.Calendar.{Date, on, leap, days_in, month_length, next, prev}
use Rattle.calendar.proofs.RealDates.{Real}
use Rattle.calendar.proofs.Months.{has_a_day}

december : (l : Bool) → days_in l 12 ≡ 31
unfolding days_in
december l = refl

-- what holds of the dates that may come next holds of the next
pub after {ℓ} : (P : Date → Type ℓ) (y : ℤ) (m d : ℕ) → Real (on y m d)
    → (d < month_length y m → P (on y m (d + 1)))
    → (d ≡ month_length y m → m < 12 → P (on y (m + 1) 1))
    → (d ≡ 31 → m ≡ 12 → P (on (suc_ℤ y) 1 1))
    → P (next (on y m d))
unfolding next
after P y m d r day month year = by_day (dec_lt d (month_length y m)) (dec_lt m 12)
  where
    by_day : Dec (d < month_length y m) → Dec (m < 12) → P (next (on y m d))
    by_day (yes h) q = rw (lt-ltb d (month_length y m) h) (day h)
    by_day (no n) (yes k) =
        let h : d ≡ month_length y m = omega (arith, n, r.day_to) in
        rw (le-ltb d (month_length y m) (omega arith), lt-ltb m 12 k) (month h k)
    by_day (no n) (no k) =
        let h : d ≡ month_length y m = omega (arith, n, r.day_to) in
        let last : m ≡ 12 = omega (arith, k, r.month_to) in
        rw (le-ltb d (month_length y m) (omega arith), le-ltb m 12 (omega arith))
        (year (h ∙ ap (days_in (leap y)) last ∙ december (leap y)) last)

-- and of those that may come before
pub before {ℓ} : (P : Date → Type ℓ) (y : ℤ) (m d : ℕ) → Real (on y m d)
    → (1 < d → P (on y m (d - 1)))
    → (d ≡ 1 → 1 < m → P (on y (m - 1) (month_length y (m - 1))))
    → (d ≡ 1 → m ≡ 1 → P (on (pred_ℤ y) 12 31))
    → P (prev (on y m d))
unfolding prev
before P y m d r day month year = by_day (dec_lt 1 d) (dec_lt 1 m)
  where
    by_day : Dec (1 < d) → Dec (1 < m) → P (prev (on y m d))
    by_day (yes h) q = rw (lt-ltb 1 d h) (day h)
    by_day (no n) (yes k) =
        let h : d ≡ 1 = omega (arith, n, r.day-from) in
        rw (le-ltb 1 d (omega arith), lt-ltb 1 m k) (month h k)
    by_day (no n) (no k) =
        let h : d ≡ 1 = omega (arith, n, r.day-from) in
        let first : m ≡ 1 = omega (arith, k, r.month_from) in
        rw (le-ltb 1 d (omega arith), le-ltb 1 m (omega arith)) (year h first)

module _ (d : Date) (r : Real d) where
  abbrev y : ℤ
  y = d.year

  abbrev m : ℕ
  m = d.month

  pub next_real : Real (next d)
  next_real =
      after Real y m d.day r (λ h. omega arith) (λ h k. omega (arith, has_a_day (leap y) (m + 1) (omega arith)))
      (λ h k. omega (arith, has_a_day (leap (suc_ℤ y)) 1 (omega arith)))

  pub prev_real : Real (prev d)
  prev_real =
      before Real y m d.day r (λ h. omega (arith, r.day_to))
      (λ h k. omega (arith, r.month_to, has_a_day (leap y) (m - 1) (omega (arith, r.month_to))))
      (λ h k. omega (arith, december (leap (pred_ℤ y))))

  pub next-prev : next (prev d) ≡ d
  unfolding next
  next-prev =
      before (λ e. next e ≡ d) y m d.day r
      (λ h. rw (lt-ltb (d.day - 1) (month_length y m) (omega (arith, r.day_to))) (ap (on y m) (omega arith)))
      (λ h k.
      let last = month_length y (m - 1) in
      rw (le-ltb last last (omega arith), lt-ltb (m - 1) 12 (omega (arith, r.month_to)))
      (λ i. on y (back k i) (sym h i)))
      (λ h k.
      rw (le-ltb 31 (month_length (pred_ℤ y) 12) (omega (arith, december (leap (pred_ℤ y)))))
      (λ i. on (suc-pred y i) (sym k i) (sym h i)))
    where
      back : 1 < m → m - 1 + 1 ≡ m
      back h = omega arith

  pub prev-next : prev (next d) ≡ d
  unfolding prev
  prev-next =
      after (λ e. prev e ≡ d) y m d.day r
      (λ h. rw (lt-ltb 1 (d.day + 1) (omega (arith, r.day-from))) (ap (on y m) (omega arith)))
      (λ h k.
      rw (lt-ltb 1 (m + 1) (omega (arith, r.month_from)), add-sub_cancel m 1) (ap (on y m) (sym h)))
      (λ h k. λ i. on (pred-suc y i) (sym k i) (sym h i))
