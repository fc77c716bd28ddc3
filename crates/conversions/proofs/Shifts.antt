-- Shifts by seconds: the machine's 64-bit steps hold them, and what they are added to makes no difference to the exact
-- sum.
use mathlib.Core.Path.{◌≡◌, sym, ap, ◌∙◌}
use Prim.Native.Nat.{ℕ, suc, ◌+◌, ◌-◌, ◌*◌, ◌≤◌, ◌<◌}
use native.Mathlib.Omega.{arith}
use native.Mathlib.Decide.{dec_lt}
use lib.IntN.{ℤ, pos, negsuc, neg_ℤ, sub_ℕ, ◌+ℤ◌, ◌-ℤ◌, neg_ℤ-neg_ℤ, neg_ℤ-+ℤ, +ℤ_assoc}
use Rattle.counts.proofs.Difference.{of_naturals, not_below, below, same}
use Rattle.conversions.specs.Conversions.{in_nanos}

-- taken from a count
pub taken : (u x e : ℤ) → u -ℤ (e -ℤ x) ≡ u -ℤ e +ℤ x
taken u x e =
    ap (λ (y : ℤ). u +ℤ y) (neg_ℤ-+ℤ e (neg_ℤ x) ∙ ap (λ (y : ℤ). neg_ℤ e +ℤ y) (neg_ℤ-neg_ℤ x))
    ∙ sym (+ℤ_assoc u (neg_ℤ e) x)

-- a GPS count and its TAI reading are 19 s apart, and so are the seconds taken from them
pub tai_less : (g : ℕ) (n : ℤ) → pos (g + 19_000_000_000) -ℤ in_nanos n ≡ pos g -ℤ in_nanos (n -ℤ pos 19)
tai_less g (pos a) = by_order (dec_lt a 19)
  where
    by_order : Dec (a < 19) → pos (g + 19_000_000_000) -ℤ pos (a * 1_000_000_000) ≡ pos g -ℤ in_nanos (sub_ℕ a 19)
    by_order (yes l) =
        rw (below a 19 l, neg_ℤ-neg_ℤ (pos (suc (19 - suc a) * 1_000_000_000)))
        (of_naturals (g + 19_000_000_000) (a * 1_000_000_000)
        ∙ not_below (g + 19_000_000_000) (a * 1_000_000_000) (omega arith) ∙ ap pos (omega arith))
    by_order (no l) =
        let h : 19 ≤ a = omega (arith, l) in
        rw (not_below a 19 h)
        (of_naturals (g + 19_000_000_000) (a * 1_000_000_000)
        ∙ same (g + 19_000_000_000) (a * 1_000_000_000) g ((a - 19) * 1_000_000_000) (omega arith)
        ∙ sym (of_naturals g ((a - 19) * 1_000_000_000)))
tai_less g (negsuc a) =
    rw (neg_ℤ-neg_ℤ (pos (suc a * 1_000_000_000)), neg_ℤ-neg_ℤ (pos (suc (suc (a + 18)) * 1_000_000_000)))
    (ap pos (omega arith))
