-- The laws of `or_else`, the first of two numbers that is not 0.
use mathlib.Core.Path.{◌≡◌, refl}
use mathlib.Core.Bool.{Bool, true, false, cond}
use Prim.Native.Nat.{ℕ, zero, suc}
use native.Mathlib.Omega.{arith}
use lib.Dec.{eqb-suc-zero}
use Rattle.records.specs.Records.{or_else}

pub nothing_else : (k : ℕ) → or_else k 0 ≡ k
nothing_else zero = refl
nothing_else (suc k) = rw (eqb-suc-zero k)

pub or_else_assoc : (k l m : ℕ) → or_else (or_else k l) m ≡ or_else k (or_else l m)
or_else_assoc zero l m = refl
or_else_assoc (suc k) l m = rw (eqb-suc-zero k, eqb-suc-zero k)

pub both_zero : (k l : ℕ) → or_else k l ≡ 0 → (k ≡ 0) × (l ≡ 0)
both_zero zero l z = (refl, z)
both_zero (suc k) l z = let c : suc k ≡ 0 = rw (eqb-suc-zero k) at z in absurd (omega arith)

-- a refusal by a test
pub by_test : (b : Bool) (k l : ℕ) → or_else (cond b (suc k) 0) l ≡ cond b (suc k) l
by_test true k l = rw (eqb-suc-zero k)
by_test false k l = refl
