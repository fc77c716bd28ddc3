-- Two dates of which one is too early are refused, whatever they would give; else they give it.
use mathlib.Core.Path.{◌≡◌, refl, sym, ap}
use mathlib.Core.Bool.{Bool, true, false, ◌||◌, cond}
use Prim.Native.Nat.{ℕ}
use native.Mathlib.Omega.{arith}
use lib.IntN.{ℤ}
use Rattle.refusals.specs.Outcome.{Outcome, answered, refused}
use Rattle.calendar.specs.Calendar.{Date}
use Rattle.calendar.specs.Dates.{too_early, days_between, of_both, days_until}

-- the days between two dates, where neither is too early
pub record Given (a b : Date) (n : ℤ) : Type 0 where
  pub days : n ≡ days_between a b
  pub gives : (o : Outcome ℤ) → o ≡ of_both a b o

pub given : (a b : Date) (n : ℤ) → answered n ≡ days_until a b → Given a b n
given a b n e = by_test (too_early a || too_early b) refl e
  where
    by_test : (t : Bool) → (too_early a || too_early b) ≡ t → answered n ≡ cond t (refused 1) (answered (days_between a b))
        → Given a b n
    by_test true s e = let z : ◌≡◌ {A = ℕ} 0 1 = cc in absurd (omega arith)
    by_test false s e = record { days = cc; gives = λ o. sym (ap (λ (t : Bool). cond t (refused 1) o) s) }

pub refuses : (a b : Date) (k : ℕ) → refused k ≡ days_until a b → (o : Outcome ℤ) → refused k ≡ of_both a b o
refuses a b k e o = by_test (too_early a || too_early b) e
  where
    by_test : (t : Bool) → refused k ≡ cond t (refused 1) (answered (days_between a b))
        → refused k ≡ cond t (refused 1) o
    by_test true e = e
    by_test false e = cc
