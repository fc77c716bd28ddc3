-- Days in years that begin in March: a year is as long as the 4, 100, 400 rule says, and 400 years are 146,097 days.
use Prim.Native.Nat.{ℕ, suc, ◌+◌, ◌-◌, ◌*◌, ◌/◌, ◌%◌, ◌≤◌, ◌<◌}
use mathlib.Core.Path.{◌≡◌, refl, subst}
use mathlib.Core.Logic.{◌≢◌}
use mathlib.Core.Bool.{Bool, true, false, not, ◌&&◌, ◌||◌, cond}
use native.Mathlib.Omega.{arith}
use native.Mathlib.Decide.{dec_lt}
use borrow.Author.Tests.{eqb-true, eqb-false}
use lib.Dec.{eqb}
use lib.IntN.{pos}
use Rattle.calendar.specs.Calendar.{leap}
use Rattle.calendar.specs.March.{days_in_years, InYear}

pub hundreds_fewer : (y : ℕ) → y / 100 ≤ y / 4
hundreds_fewer y = omega arith

-- ---- a quotient grows by one exactly where the divisor divides
by_4 : (a : ℕ) (p : Bool) → eqb (suc a % 4) 0 ≡ p → suc a / 4 ≡ a / 4 + cond p 1 0
by_4 a true e = let h : suc a % 4 ≡ 0 = eqb-true _ _ e in omega arith
by_4 a false e = let h : suc a % 4 ≢ 0 = eqb-false _ _ e in omega arith

by_100 : (a : ℕ) (p : Bool) → eqb (suc a % 100) 0 ≡ p → suc a / 100 ≡ a / 100 + cond p 1 0
by_100 a true e = let h : suc a % 100 ≡ 0 = eqb-true _ _ e in omega arith
by_100 a false e = let h : suc a % 100 ≢ 0 = eqb-false _ _ e in omega arith

by_400 : (a : ℕ) (p : Bool) → eqb (suc a % 400) 0 ≡ p → suc a / 400 ≡ a / 400 + cond p 1 0
by_400 a true e = let h : suc a % 400 ≡ 0 = eqb-true _ _ e in omega arith
by_400 a false e = let h : suc a % 400 ≢ 0 = eqb-false _ _ e in omega arith

-- ---- the year before a March is a leap year, or not
module _ (a : ℕ) where
  hundred_is_fourth : suc a % 100 ≡ 0 → suc a % 4 ≡ 0
  hundred_is_fourth h = omega arith

  era_is_hundred : suc a % 400 ≡ 0 → suc a % 100 ≡ 0
  era_is_hundred h = omega arith

  grows : (i j k : ℕ) → j ≤ i → suc a / 4 ≡ a / 4 + i → suc a / 100 ≡ a / 100 + j → suc a / 400 ≡ a / 400 + k
      → days_in_years (suc a) ≡ days_in_years a + (365 + i + k - j)
  grows i j k h e f g = sums (a / 4) (a / 100) (a / 400) _ _ _ (hundreds_fewer a) e f g
    where
      sums : (q c e q' c' e' : ℕ) → c ≤ q → q' ≡ q + i → c' ≡ c + j → e' ≡ e + k
          → 365 * suc a + q' + e' - c' ≡ 365 * a + q + e - c + (365 + i + k - j)
      sums q c e q' c' e' l m n o = omega arith

  by_rule : (p q r : Bool) → eqb (suc a % 4) 0 ≡ p → eqb (suc a % 100) 0 ≡ q → eqb (suc a % 400) 0 ≡ r
      → days_in_years (suc a) ≡ days_in_years a + cond (p && (not q || r)) 366 365
  by_rule false true r e f g = absurd (eqb-false _ _ e (hundred_is_fourth (eqb-true _ _ f)))
  by_rule p false true e f g = absurd (eqb-false _ _ f (era_is_hundred (eqb-true _ _ g)))
  by_rule false false false e f g = grows 0 0 0 (omega arith) (by_4 a false e) (by_100 a false f) (by_400 a false g)
  by_rule true false false e f g = grows 1 0 0 (omega arith) (by_4 a true e) (by_100 a false f) (by_400 a false g)
  by_rule true true false e f g = grows 1 1 0 (omega arith) (by_4 a true e) (by_100 a true f) (by_400 a false g)
  by_rule true true true e f g = grows 1 1 1 (omega arith) (by_4 a true e) (by_100 a true f) (by_400 a true g)

  pub year_length : days_in_years (suc a) ≡ days_in_years a + cond (leap (pos (suc a))) 366 365
  year_length = by_rule _ _ _ refl refl refl

-- the last year is as long as the rule says
pub year_ending : (n : ℕ) → 1 ≤ n → days_in_years n ≡ days_in_years (n - 1) + cond (leap (pos n)) 366 365
year_ending n low =
    let again : suc (n - 1) ≡ n = omega arith in
    subst (λ (j : ℕ). days_in_years j ≡ days_in_years (n - 1) + cond (leap (pos j)) 366 365) again (year_length (n - 1))

pub at_most_366 : (a : ℕ) → days_in_years (suc a) ≤ days_in_years a + 366
at_most_366 a = by_length (leap (pos (suc a))) (days_in_years (suc a)) (days_in_years a) (year_length a)
  where
    by_length : (l : Bool) (n m : ℕ) → n ≡ m + cond l 366 365 → n ≤ m + 366
    by_length true n m e = omega arith
    by_length false n m e = omega arith

-- ---- by eras and the years of an era
pub of-era : (y : ℕ) → days_in_years y ≡ y / 400 * 146097 + (y % 400 * 365 + y % 400 / 4 - y % 400 / 100)
of-era y =
    sums (y / 400) (y % 400) (y / 4) (y / 100) (y % 400 / 4) (y % 400 / 100) (omega arith) fourths hundreds
    (hundreds_fewer y)
    (hundreds_fewer (y % 400))
  where
    fourths : y / 4 ≡ 100 * (y / 400) + y % 400 / 4
    fourths = omega arith

    hundreds : y / 100 ≡ 4 * (y / 400) + y % 400 / 100
    hundreds = omega arith

    sums : (e r a b a' b' : ℕ) → y ≡ 400 * e + r → a ≡ 100 * e + a' → b ≡ 4 * e + b' → b ≤ a → b' ≤ a'
        → 365 * y + a + e - b ≡ e * 146097 + (r * 365 + a' - b')
    sums e r a b a' b' h k l m n = omega arith

-- ---- by centuries and the years of a century
pub of_century : (c k : ℕ) → k < 100 → days_in_years (100 * c + k) ≡ 146097 * c / 4 + 1461 * k / 4
of_century c k h = sums _ _ _ _ _ fourths hundreds eras (omega arith) (omega arith) (omega arith)
  where
    fourths : (100 * c + k) / 4 ≡ 25 * c + k / 4
    fourths = omega arith

    hundreds : (100 * c + k) / 100 ≡ c
    hundreds = omega arith

    eras : (100 * c + k) / 400 ≡ c / 4
    eras = omega arith

    sums : (a b d q e : ℕ) → a ≡ 25 * c + q → b ≡ c → d ≡ e → q ≡ k / 4 → e ≡ c / 4 → k < 100
        → 365 * (100 * c + k) + a + d - b ≡ 146097 * c / 4 + 1461 * k / 4
    sums a b d q e h i j k l m = omega arith

-- ---- the year that holds a day, by the day's last quarter
split : (n p r : ℕ) → 4 * n + 3 ≡ p + r → n ≡ p / 4 + r / 4
split n p r e = omega arith

reaches : (n p : ℕ) → 4 * n + 3 < p → n < p / 4
reaches n p h = omega arith

-- day j of year k of century c is day n, b days into the century
module _ (n c b k j : ℕ) (of-all : n ≡ 146097 * c / 4 + b) (few : k < 100) (of_hundred : b ≡ 1461 * k / 4 + j)
    (year_ahead : 4 * b + 3 < 1461 * suc k) (century_ahead : 4 * n + 3 < 146097 * suc c) where
  ends : Dec (k < 99) → n < days_in_years (suc (100 * c + k))
  ends (yes l) =
      subst (λ (y : ℕ). n < days_in_years y) next_year
      (sums (days_in_years (100 * c + suc k)) (146097 * c / 4) (1461 * suc k / 4)
      (of_century c (suc k) (omega arith)) of-all
      (reaches b (1461 * suc k) year_ahead))
    where
      next_year : 100 * c + suc k ≡ suc (100 * c + k)
      next_year = omega arith

      sums : (y a e : ℕ) → y ≡ a + e → n ≡ a + b → b < e → n < y
      sums y a e h i l = omega arith
  ends (no g) =
      subst (λ (y : ℕ). n < days_in_years y) next_century
      (sums (days_in_years (100 * suc c + 0)) (146097 * suc c / 4) (of_century (suc c) 0 (omega arith))
      (reaches n (146097 * suc c) century_ahead))
    where
      next_century : 100 * suc c + 0 ≡ suc (100 * c + k)
      next_century = omega (arith, g)

      sums : (y a : ℕ) → y ≡ a + 0 → n < a → n < y
      sums y a h l = omega arith

  in_century : InYear n (100 * c + k) j
  in_century =
      record {
        begun = sums (days_in_years (100 * c + k)) (146097 * c / 4) (1461 * k / 4) (of_century c k few) of-all of_hundred;
        ahead = ends (dec_lt k 99);
      }
    where
      sums : (y a e : ℕ) → y ≡ a + e → n ≡ a + b → b ≡ e + j → y + j ≡ n
      sums y a e h i l = omega arith

pub held : (n : ℕ)
    → InYear n (100 * ((4 * n + 3) / 146097) + (4 * ((4 * n + 3) % 146097 / 4) + 3) / 1461) ((4 * ((4 * n + 3) % 146097 / 4) + 3) % 1461 / 4)
held n =
    in_century n ((4 * n + 3) / 146097) b ((4 * b + 3) / 1461) ((4 * b + 3) % 1461 / 4)
    (split n (146097 * ((4 * n + 3) / 146097)) ((4 * n + 3) % 146097) (omega arith)) (omega arith)
    (split b (1461 * ((4 * b + 3) / 1461)) ((4 * b + 3) % 1461) (omega arith)) (omega arith) (omega arith)
  where
    b : ℕ
    b = (4 * n + 3) % 146097 / 4
