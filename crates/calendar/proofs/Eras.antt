-- Every year is a natural year less a number of eras of 400 years, and neither the calendar nor the formula tells eras
-- apart. So a day of any year is counted in naturals.
use Prim.Native.Nat.{ℕ, zero, suc, ◌+◌, ◌-◌, ◌*◌, ◌/◌, ◌%◌, ◌≤◌}
use mathlib.Core.Path.{◌≡◌, refl, ap, sym, ◌∙◌}
use mathlib.Core.Logic.{◌↔◌}
use mathlib.Core.Bool.{Bool, true, false, not, ◌&&◌, ◌||◌, cond}
use native.Mathlib.Omega.{arith}
use lib.Dec.{eqb, ltb, eqb-suc-zero}
use lib.IntN.{ℤ, pos, negsuc, neg_ℤ, pred_ℤ, sub_ℕ, ◌+ℤ◌, ◌-ℤ◌, ◌*ℤ◌}
use lib.Signed.{quot_z}
use Rattle.counts.proofs.Difference.{not_below, below, by_order, same, of_naturals, less}
use Rattle.calendar.specs.Calendar.{leap}
use Rattle.calendar.specs.Formula.{from_march, march_year, era, yoe, doy, doe, month_start, formula}
use Rattle.calendar.specs.March.{days_in_years, march_of, epoch_number, lift_eras, Lifted}
use Rattle.calendar.proofs.Sums.{one_less, sum, difference, times}
use Rattle.calendar.proofs.MarchYears.{of-era, hundreds_fewer}

-- ---- a natural year for each year
pub record Above (y : ℤ) : Type 0 where
  pub years : ℕ
  pub eras : ℕ
  pub is : y ≡ sub_ℕ years (400 * eras)
  pub low : 1 ≤ years

pub above : (y : ℤ) → Above y
above (pos a) = record {
  years = a + 400;
  eras = 1;
  is = sym (not_below (a + 400) 400 (omega arith) ∙ ap pos (omega arith));
  low = omega arith;
}
above (negsuc a) = record {
  years = 399 * suc a + 400;
  eras = suc a + 1;
  is = sym (below (399 * suc a + 400) (400 * (suc a + 1)) (omega arith) ∙ ap negsuc (omega arith));
  low = omega arith;
}

-- ---- leap years
zero_alike : (a b : ℕ) → (a ≡ 0) ↔ (b ≡ 0) → eqb a 0 ≡ eqb b 0
zero_alike zero zero h = refl
zero_alike zero (suc b) h = let e : suc b ≡ 0 = h.0 refl in absurd (omega arith)
zero_alike (suc a) zero h = let e : suc a ≡ 0 = h.1 refl in absurd (omega arith)
zero_alike (suc a) (suc b) h = eqb-suc-zero a ∙ sym (eqb-suc-zero b)

leap-alike : (a n : ℕ) → (a % 4 ≡ 0) ↔ (n % 4 ≡ 0) → (a % 100 ≡ 0) ↔ (n % 100 ≡ 0) → (a % 400 ≡ 0) ↔ (n % 400 ≡ 0)
    → leap (pos a) ≡ leap (pos n)
leap-alike a n p q r =
    λ i. zero_alike (a % 4) (n % 4) p i &&
    (not (zero_alike (a % 100) (n % 100) q i) || zero_alike (a % 400) (n % 400) r i)

-- 400 divides the sum or the difference of the two years
pub same_leap : (n e : ℕ) → leap (sub_ℕ n (400 * e)) ≡ leap (pos n)
same_leap n e =
    by_order (λ z. leap z ≡ leap (pos n)) n (400 * e)
    (λ l.
    let a = suc (400 * e - suc n) in
    let s : a + n ≡ 400 * e = omega arith in
    leap-alike a n (omega arith) (omega arith) (omega arith))
    (λ h.
    let a = n - 400 * e in
    let s : a + 400 * e ≡ n = omega arith in
    leap-alike a n (omega arith) (omega arith) (omega arith))

-- ---- the formula
era_onward : (a : ℕ) → era (pos a) ≡ pos (a / 400)
unfolding era
era_onward a = refl

era-back : (a : ℕ) → era (negsuc a) ≡ negsuc (a / 400)
unfolding era
era-back a = ap (λ (q : ℕ). neg_ℤ (pos q)) up
  where
    up : suc (suc (a + 398)) / 400 ≡ suc (a / 400)
    up = omega arith

-- days in a natural year up to a day of a month
abbrev pub day_number : ℕ → ℕ → ℕ → ℕ
day_number n m d = days_in_years (march_of n m) + (month_start (from_march m) + d)

module _ (n e : ℕ) where
  same_era : era (sub_ℕ n (400 * e)) ≡ sub_ℕ (n / 400) e
  same_era =
      by_order (λ z. era z ≡ sub_ℕ (n / 400) e) n (400 * e)
      (λ l. era-back (400 * e - suc n) ∙ sym (below (n / 400) e (omega arith) ∙ ap negsuc (omega arith)))
      (λ h. era_onward (n - 400 * e) ∙ sym (not_below (n / 400) e (omega arith) ∙ ap pos (omega arith)))

  same_yoe : yoe (sub_ℕ n (400 * e)) ≡ pos (n % 400)
  unfolding yoe
  same_yoe =
      ap (λ (z : ℤ). sub_ℕ n (400 * e) -ℤ z *ℤ pos 400) same_era
      ∙ ap (λ (z : ℤ). sub_ℕ n (400 * e) -ℤ z) (times (n / 400) e 400)
      ∙ difference n (400 * e) (n / 400 * 400) (e * 400)
      ∙ not_below (n + e * 400) (400 * e + n / 400 * 400) (omega arith) ∙ ap pos (omega arith)

  abbrev of_era_year : ℕ
  of_era_year = n % 400 * 365 + n % 400 / 4

  -- the formula's last three lines, at a year that begins in March
  from_march_lem : (m d : ℕ)
      → era (sub_ℕ n (400 * e)) *ℤ pos 146097 +ℤ doe (sub_ℕ n (400 * e)) m d -ℤ pos 719468
      ≡ sub_ℕ (days_in_years n + (month_start m + d)) (epoch_number e)
  unfolding doe doy
  from_march_lem m d =
      (λ i. (ap (λ (z : ℤ). z *ℤ pos 146097) same_era ∙ times (n / 400) e 146097) i +ℤ
      (in_year i +ℤ of_naturals (month_start m + d) 1 i) -ℤ pos 719468)
      ∙ ap (λ (z : ℤ). sub_ℕ (n / 400 * 146097) (e * 146097) +ℤ z -ℤ pos 719468)
      (sum of_era_year (n % 400 / 100) (month_start m + d) 1)
      ∙ ap (λ (z : ℤ). z -ℤ pos 719468)
      (sum (n / 400 * 146097) (e * 146097) (of_era_year + (month_start m + d)) (n % 400 / 100 + 1))
      ∙ less (n / 400 * 146097 + (of_era_year + (month_start m + d))) (e * 146097 + (n % 400 / 100 + 1)) 719468
      ∙ same _ _ _ _ (sums (days_in_years n) (n / 400 * 146097) (n % 400 * 365 + n % 400 / 4) (n % 400 / 100)
      (month_start m + d)
      (of-era n) (omega (arith, hundreds_fewer (n % 400))))
    where
      in_year : yoe (sub_ℕ n (400 * e)) *ℤ pos 365 +ℤ quot_z (yoe (sub_ℕ n (400 * e))) (pos 4) -ℤ quot_z
          (yoe (sub_ℕ n (400 * e)))
          (pos 100) ≡ sub_ℕ of_era_year (n % 400 / 100)
      in_year =
          ap (λ (z : ℤ). z *ℤ pos 365 +ℤ quot_z z (pos 4) -ℤ quot_z z (pos 100)) same_yoe
          ∙ of_naturals of_era_year (n % 400 / 100)

      sums : (y q r c k : ℕ) → y ≡ q + (r - c) → c ≤ r
          → q + (r + k) + (epoch_number e) ≡ y + k + (e * 146097 + (c + 1) + 719468)
      sums y q r c k h l = omega arith

  same_march : (b : Bool) → 1 ≤ n
      → cond b (sub_ℕ n (400 * e)) (pred_ℤ (sub_ℕ n (400 * e))) ≡ sub_ℕ (cond b n (n - 1)) (400 * e)
  same_march true low = refl
  same_march false low = one_less n (400 * e) low

-- the Unix day of any fields, counted in naturals
pub counted : (y : ℤ) (m d n e : ℕ) → y ≡ sub_ℕ n (400 * e) → 1 ≤ n
    → formula y m d ≡ sub_ℕ (day_number n m d) (epoch_number e)
unfolding formula
counted y m d n e is low =
    ap (λ (z : ℤ). era z *ℤ pos 146097 +ℤ doe z (from_march m) d -ℤ pos 719468)
    (ap (λ (z : ℤ). march_year z m) is ∙ same_march n e (ltb 2 m) low)
    ∙ from_march_lem (march_of n m) e (from_march m) d

-- the same of a lifted year, from its parts
pub of_lifted : (y : ℤ) (m d n before_year before_month : ℕ) → Lifted y n → before_year ≡ days_in_years (march_of n m)
    → before_month ≡ month_start (from_march m)
    → sub_ℕ (before_year + before_month + d) (epoch_number lift_eras) ≡ formula y m d
of_lifted y m d n b s l e f =
    ap (λ (k : ℕ). sub_ℕ k (epoch_number lift_eras))
    ((λ i. e i + f i + d) ∙ sums (days_in_years (march_of n m)) (month_start (from_march m)))
    ∙ sym (counted y m d n lift_eras l.is l.low)
  where
    sums : (a c : ℕ) → a + c + d ≡ a + (c + d)
    sums a c = omega arith
