-- The test of two integers for equality, and one more than a 32-bit number.
use mathlib.Core.Path.{◌≡◌, refl, ap, ◌∙◌}
use mathlib.Core.Bool.{true, false}
use Prim.Native.Nat.{ℕ, zero, suc, ◌+◌, ◌<◌, ◌^◌}
use native.Mathlib.Omega.{arith}
use borrow.Author.Tests.{eq-eqb, ne_eqb, eqb-true, lt-ltb}
use lib.IntN.{ℤ, pos, negsuc, ◌+ℤ◌}
use mir.Syntax.{w32}
use mir.Val.{SFits}
use Rattle.tables.specs.Entries.{equal}

pub equal_yes : (a b : ℤ) → a ≡ b → equal a b ≡ true
equal_yes (pos a) (pos b) e = eq-eqb a b (cc)
equal_yes (pos a) (negsuc b) e = cc
equal_yes (negsuc a) (pos b) e = cc
equal_yes (negsuc a) (negsuc b) e = eq-eqb a b (cc)

pub equal_no : (a b : ℤ) → (a ≡ b → ⊥) → equal a b ≡ false
equal_no (pos a) (pos b) n = ne_eqb a b (λ e. n (ap pos e))
equal_no (pos a) (negsuc b) n = refl
equal_no (negsuc a) (pos b) n = refl
equal_no (negsuc a) (negsuc b) n = ne_eqb a b (λ e. n (ap negsuc e))

-- the test, turned into the fact
pub equal_true : (a b : ℤ) → equal a b ≡ true → a ≡ b
equal_true (pos a) (pos b) h = ap pos (eqb-true a b h)
equal_true (pos a) (negsuc b) h = cc
equal_true (negsuc a) (pos b) h = cc
equal_true (negsuc a) (negsuc b) h = ap negsuc (eqb-true a b h)

-- one more than a number that is not the largest fits
pub more_fits : (a : ℤ) → SFits w32 a → (a ≡ pos 2_147_483_647 → ⊥) → SFits w32 (a +ℤ pos 1)
more_fits (pos a) f n = record { sfits = not_largest f.sfits (λ e. n (ap pos e)) }
  where
    not_largest : {m : ℕ} → m < 2 ^ 31 → (m ≡ 2_147_483_647 → ⊥) → m + 1 < 2 ^ 31
    not_largest l k = omega (arith, k)
more_fits (negsuc zero) f n = record { sfits = omega arith }
more_fits (negsuc (suc a)) f n = record { sfits = simp (lt-ltb 1 (suc (suc a)) (omega arith)) (omega (arith, f.sfits)) }

-- no 32-bit number is one more than the largest
pub none_above : (a b : ℤ) → SFits w32 b → a ≡ pos 2_147_483_647 → b ≡ a +ℤ pos 1 → ⊥
none_above a b f e h = too_large (rw (h ∙ ap (λ (z : ℤ). z +ℤ pos 1) e) at f.sfits)
  where
    too_large : 2_147_483_648 < 2 ^ 31 → ⊥
    too_large l = omega arith
