-- Laws of the difference of two naturals, `sub_ℕ a b`. An exact integer is brought to this form, and then `omega`
-- decides.
use mathlib.Core.Path.{◌≡◌, refl, sym, ap, ◌∙◌}
use Prim.Native.Nat.{ℕ, zero, suc, ◌+◌, ◌-◌, ◌≤◌, ◌<◌}
use native.Mathlib.Omega.{arith}
use native.Mathlib.Decide.{dec_lt}
use borrow.Author.Tests.{lt-ltb, le-ltb}
use lib.IntN.{ℤ, pos, negsuc, sub_ℕ, ◌+ℤ◌, ◌-ℤ◌}

pub not_below : (a b : ℕ) → b ≤ a → sub_ℕ a b ≡ pos (a - b)
not_below a b h = simp (le-ltb a b h)

pub below : (a b : ℕ) → a < b → sub_ℕ a b ≡ negsuc (b - suc a)
below a b h = simp (lt-ltb a b h)

-- what holds of a difference below 0, and of one that is not, holds of any
pub by_order : (P : ℤ → Type 0) (a b : ℕ) → (a < b → P (negsuc (b - suc a))) → (b ≤ a → P (pos (a - b)))
    → P (sub_ℕ a b)
by_order P a b back onward = go (dec_lt a b)
  where
    go : Dec (a < b) → P (sub_ℕ a b)
    go (yes l) = rw (below a b l) (back l)
    go (no n) = let h : b ≤ a = omega (arith, n) in rw (not_below a b h) (onward h)

-- two differences are equal where their cross sums are
pub same : (a b c d : ℕ) → a + d ≡ c + b → sub_ℕ a b ≡ sub_ℕ c d
same a b c d e =
    by_order (λ z. z ≡ sub_ℕ c d) a b (λ l. ap negsuc (omega arith) ∙ sym (below c d (omega arith)))
    (λ h. ap pos (omega arith) ∙ sym (not_below c d (omega arith)))

pub of_naturals : (a b : ℕ) → pos a -ℤ pos b ≡ sub_ℕ a b
of_naturals a zero = sym (not_below a 0 (omega arith) ∙ ap pos (omega arith))
of_naturals a (suc b) = refl

pub plus : (a b k : ℕ) → sub_ℕ a b +ℤ pos k ≡ sub_ℕ (a + k) b
plus a b k =
    by_order (λ z. z +ℤ pos k ≡ sub_ℕ (a + k) b) a b (λ l. same k (suc (b - suc a)) (a + k) b (omega arith))
    (λ h. ap pos (omega arith) ∙ sym (not_below (a + k) b (omega arith)))

pub less : (a b k : ℕ) → sub_ℕ a b -ℤ pos k ≡ sub_ℕ a (b + k)
less a b zero = plus a b 0 ∙ same (a + 0) b a (b + 0) (omega arith)
less a b (suc k) =
    by_order (λ z. z -ℤ pos (suc k) ≡ sub_ℕ a (b + suc k)) a b
    (λ l. ap negsuc (omega arith) ∙ sym (below a (b + suc k) (omega arith)))
    (λ h. same (a - b) (suc k) a (b + suc k) (omega arith))
