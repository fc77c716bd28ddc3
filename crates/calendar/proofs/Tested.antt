-- A test that is computed for every number below a bound holds at each of them.
use Prim.Native.Nat.{ℕ, zero, suc, ◌<◌}
use mathlib.Core.Path.{◌≡◌, subst}
use mathlib.Core.Bool.{Bool, true, ◌&&◌}
use native.Mathlib.Omega.{arith}
use native.Mathlib.Decide.{dec_lt}
use lib.Dec.{T}
use mir.Facts.{and_yes}

abbrev pub every : (ℕ → Bool) → ℕ → Bool
every f zero = true
every f (suc n) = f n && every f n

pub at : (f : ℕ → Bool) (n : ℕ) → T (every f n) → (k : ℕ) → k < n → T (f k)
at f zero t k h = absurd (omega arith)
at f (suc n) t k h = by_order (dec_lt k n) (at f n (and_yes (f n) (every f n) t).1 k)
  where
    by_order : Dec (k < n) → (k < n → T (f k)) → T (f k)
    by_order (yes l) earlier = earlier l
    by_order (no l) earlier =
        let e : n ≡ k = omega (arith, l) in
        subst (λ (m : ℕ). T (f m)) e (and_yes (f n) (every f n) t).0
