-- Sums, differences and multiples of differences of naturals, `sub_ℕ a b`.
use mathlib.Core.Path.{◌≡◌, refl, sym, ap, ◌∙◌}
use Prim.Native.Nat.{ℕ, zero, suc, ◌+◌, ◌-◌, ◌*◌, ◌≤◌, ◌<◌}
use native.Mathlib.Omega.{arith}
use native.Mathlib.Nat.{add-mul}
use lib.Signed.{mag}
use lib.IntN.{ℤ, pos, negsuc, neg_ℤ, suc_ℤ, pred_ℤ, sub_ℕ, ◌+ℤ◌, ◌-ℤ◌, ◌*ℤ◌, +ℤ_one, -ℤ_one, nat_abs, pos-ne-negsuc}
use Rattle.counts.proofs.Difference.{not_below, below, by_order, same, plus, less}

pub one_more : (a b : ℕ) → suc_ℤ (sub_ℕ a b) ≡ sub_ℕ (a + 1) b
one_more a b = sym (+ℤ_one (sub_ℕ a b)) ∙ plus a b 1

pub one_less : (a b : ℕ) → 1 ≤ a → pred_ℤ (sub_ℕ a b) ≡ sub_ℕ (a - 1) b
one_less a b h = sym (-ℤ_one (sub_ℕ a b)) ∙ less a b 1 ∙ same a (b + 1) (a - 1) b (omega arith)

-- a natural below 0
pub minus : (n : ℕ) → neg_ℤ (pos n) ≡ sub_ℕ 0 n
minus zero = refl
minus (suc n) = sym (below 0 (suc n) (omega arith) ∙ ap negsuc (omega arith))

pub sum : (a b c d : ℕ) → sub_ℕ a b +ℤ sub_ℕ c d ≡ sub_ℕ (a + c) (b + d)
sum a b c d =
    by_order (λ z. sub_ℕ a b +ℤ z ≡ sub_ℕ (a + c) (b + d)) c d
    (λ l. less a b (suc (d - suc c)) ∙ same a _ (a + c) (b + d) (omega arith))
    (λ h. plus a b (c - d) ∙ same _ b (a + c) (b + d) (omega arith))

pub turned : (a b : ℕ) → neg_ℤ (sub_ℕ a b) ≡ sub_ℕ b a
turned a b =
    by_order (λ z. neg_ℤ z ≡ sub_ℕ b a) a b (λ l. sym (not_below b a (omega arith) ∙ ap pos (omega arith)))
    (λ h. minus (a - b) ∙ same 0 (a - b) b a (omega arith))

pub difference : (a b c d : ℕ) → sub_ℕ a b -ℤ sub_ℕ c d ≡ sub_ℕ (a + d) (b + c)
difference a b c d = ap (λ (z : ℤ). sub_ℕ a b +ℤ z) (turned c d) ∙ sum a b d c

pub times : (a b k : ℕ) → sub_ℕ a b *ℤ pos k ≡ sub_ℕ (a * k) (b * k)
times a b k =
    by_order (λ z. z *ℤ pos k ≡ sub_ℕ (a * k) (b * k)) a b
    (λ l. minus (suc (b - suc a) * k)
    ∙ same 0 (suc (b - suc a) * k) (a * k) (b * k) (omega (arith, split a (suc (b - suc a)) b (omega arith))))
    (λ h. sym (not_below (a * k) (b * k) (omega (arith, split b (a - b) a (omega arith)))
    ∙ ap pos (omega (arith, split b (a - b) a (omega arith)))))
  where
    split : (u v w : ℕ) → w ≡ u + v → w * k ≡ u * k + v * k
    split u v w e = ap (λ (x : ℕ). x * k) e ∙ add-mul u v k

-- a difference that is not negative
pub is_natural : (a b k : ℕ) → sub_ℕ a b ≡ pos k → a ≡ b + k
is_natural a b k =
    by_order (λ z. z ≡ pos k → a ≡ b + k) a b (λ l e. absurd (pos-ne-negsuc k (b - suc a) (sym e)))
    (λ h e. omega (arith, ap nat_abs e))

-- a difference is no larger than what it is made of
pub magnitude : (a b h : ℕ) → a < h → b < h → mag (sub_ℕ a b) < h
magnitude a b h k l = by_order (λ z. mag z < h) a b (λ o. omega arith) (λ o. omega arith)
