-- A signed number negated by the machine: one more than it, then 0 less that, then one more again. The least number
-- can be negated in no other way.
use mathlib.Core.Path.{◌≡◌, refl, sym, ap, ◌∙◌}
use mathlib.Core.Bool.{true, false}
use Prim.Native.Nat.{ℕ, zero, suc, ◌+◌, ◌<◌, ◌^◌}
use native.Mathlib.Omega.{arith}
use borrow.Author.Tests.{ltb-true}
use lib.Dec.{T}
use lib.IntN.{ℤ, pos, negsuc, neg_ℤ, nat_abs, ◌+ℤ◌, ◌-ℤ◌, neg_ℤ-neg_ℤ}
use lib.Signed.{lt_z, non_neg}
use mir.Syntax.{w64}
use mir.Val.{Fits, SFits, of_z, to_z}
use mir.Facts.{to_z-of_z}
use Rattle.counts.proofs.Difference.{below}
use Rattle.counts.specs.Exact.{step_of}
use Rattle.counts.specs.declared.sums.Step.{Step}
use Rattle.counts.specs.declared.sums.Step.TheVariants.{Forward, Back}

-- the number as the machine reads it
abbrev read : ℤ → ℤ
read z = to_z w64 (of_z w64 z)

abbrev up : ℤ → ℤ
up z = read z +ℤ pos 1

abbrev over : ℤ → ℤ
over z = pos 0 -ℤ read (up z)

up_is : (k : ℕ) → SFits w64 (negsuc k) → up (negsuc k) ≡ neg_ℤ (pos k)
up_is k f = ap (λ (z : ℤ). z +ℤ pos 1) (to_z-of_z f) ∙ one_up k
  where
    one_up : (k : ℕ) → negsuc k +ℤ pos 1 ≡ neg_ℤ (pos k)
    one_up zero = refl
    one_up (suc k) = below 1 (suc (suc k)) (omega arith) ∙ ap negsuc (omega arith)

pub neg_fits : (k : ℕ) → k < 2 ^ 63 → SFits w64 (neg_ℤ (pos k))
neg_fits zero h = record { sfits = omega arith }
neg_fits (suc k) h = record { sfits = omega arith }

neg_neg : (k : ℕ) → pos 0 -ℤ neg_ℤ (pos k) ≡ pos k
neg_neg zero = refl
neg_neg (suc k) = ap pos (omega arith)

-- what the steps ask, and what they give
pub record Turned (z : ℤ) : Type 0 where
  pub up_fits : SFits w64 (up z)
  pub over_fits : SFits w64 (over z)
  pub casts : T (non_neg (read (over z))) × Fits w64 (nat_abs (read (over z)))
  pub more_fits : Fits w64 (nat_abs (read (over z)) + 1)
  pub gives : Back (nat_abs (read (over z)) + 1) ≡ step_of z

turned-at : (k : ℕ) → SFits w64 (negsuc k) → over (negsuc k) ≡ pos k → read (over (negsuc k)) ≡ pos k
    → Turned (negsuc k)
turned-at k f o r =
    record {
      up_fits = rw (up_is k f) (neg_fits k f.sfits);
      over_fits = rw o (record { sfits = f.sfits });
      casts = rw r (tt, record { fits = omega (arith, f.sfits) });
      more_fits = rw r (record { fits = omega (arith, f.sfits) });
      gives = rw r (ap Back (omega arith));
    }

pub turned : (z : ℤ) → SFits w64 z → lt_z (read z) (pos 0) ≡ true → Turned z
turned (pos k) f t = absurd (never k (rw (to_z-of_z f) at t))
  where
    never : (k : ℕ) → lt_z (pos k) (pos 0) ≡ true → ⊥
    never k t = omega (arith, ltb-true k 0 t)
turned (negsuc k) f t =
    let u : read (up (negsuc k)) ≡ neg_ℤ (pos k) = ap read (up_is k f) ∙ to_z-of_z (neg_fits k f.sfits) in
    let o : over (negsuc k) ≡ pos k = ap (λ (z : ℤ). pos 0 -ℤ z) u ∙ neg_neg k in
    turned-at k f o (ap read o ∙ to_z-of_z {w = w64} (record { sfits = f.sfits }))

-- a number that is not below 0 is taken as it is
pub record Kept (z : ℤ) : Type 0 where
  pub casts : T (non_neg (read z)) × Fits w64 (nat_abs (read z))
  pub gives : Forward (nat_abs (read z)) ≡ step_of z

pub kept : (z : ℤ) → SFits w64 z → lt_z (read z) (pos 0) ≡ false → Kept z
kept (pos k) f t = record { casts = rw (to_z-of_z f) (tt, record { fits = omega (arith, f.sfits) }); gives = rw (to_z-of_z f) }
kept (negsuc k) f t = let e : ◌≡◌ {A = ℕ} 0 1 = cc (rw (to_z-of_z f) at t) in absurd (never e)
  where
    never : ◌≡◌ {A = ℕ} 0 1 → ⊥
    never e = omega arith

-- what a step says of its duration
pub forward_is : {m : ℕ} (z : ℤ) → Forward m ≡ step_of z → z ≡ pos m
forward_is (pos k) e = cc
forward_is (negsuc k) e = cc

pub back_is : {m : ℕ} (z : ℤ) → Back m ≡ step_of z → z ≡ neg_ℤ (pos m)
back_is (pos k) e = cc
back_is (negsuc k) e = cc

-- a step as `by_sign` gives it is a sum or a difference, for whatever is made of it
module _ {A : Type 0} (of : ℤ → A) (n : ℕ) {m : ℕ} {s : Step} (z : ℤ) (is : s ≡ step_of z) where
  pub on_forward : s ≡ Forward m → of (pos (n + m)) ≡ of (pos n +ℤ z)
  on_forward e = rw (forward_is z (sym e ∙ is))

  pub on-back : s ≡ Back m → of (pos n -ℤ pos m) ≡ of (pos n +ℤ z)
  on-back e = rw (back_is z (sym e ∙ is))

  pub less_forward : s ≡ Forward m → of (pos n -ℤ pos m) ≡ of (pos n -ℤ z)
  less_forward e = rw (forward_is z (sym e ∙ is))

  pub less_back : s ≡ Back m → of (pos (n + m)) ≡ of (pos n -ℤ z)
  less_back e = rw (back_is z (sym e ∙ is), neg_ℤ-neg_ℤ (pos m))
