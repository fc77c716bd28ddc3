-- Which exact results are counts and durations.
use mathlib.Core.Path.{◌≡◌, refl, ap}
use Prim.Native.Nat.{ℕ, ◌≤◌, ◌<◌, ◌^◌, ◌-◌}
use native.Mathlib.Omega.{arith}
use native.Mathlib.Decide.{dec_lt}
use borrow.Author.Tests.{lt-ltb, le-ltb}
use lib.IntN.{ℤ, pos, negsuc}
use Rattle.refusals.specs.Outcome.{answered, refused}
use Rattle.refusals.proofs.Given.{one_answer, no_refusal}
use Rattle.counts.specs.Exact.{count_of, duration_of, nearest_count}

module _ (k : ℕ) where
  pub is_count : k < 2 ^ 64 → count_of (pos k) ≡ answered k
  is_count h = rw (lt-ltb k (2 ^ 64) h)

  pub no_count_lem : 2 ^ 64 ≤ k → count_of (pos k) ≡ refused 1
  no_count_lem h = rw (le-ltb k (2 ^ 64) h)

  pub is_nearest : k < 2 ^ 64 → nearest_count (pos k) ≡ k
  is_nearest h = rw (lt-ltb k (2 ^ 64) h)

  pub nearest_is_last : 2 ^ 64 ≤ k → nearest_count (pos k) ≡ 2 ^ 64 - 1
  nearest_is_last h = rw (le-ltb k (2 ^ 64) h)

  pub is_duration : k < 2 ^ 63 → duration_of (pos k) ≡ answered (pos k)
  is_duration h = rw (lt-ltb k (2 ^ 63) h)

  pub no_duration : 2 ^ 63 ≤ k → duration_of (pos k) ≡ refused 1
  no_duration h = rw (le-ltb k (2 ^ 63) h)

  pub is_duration_back : k < 2 ^ 63 → duration_of (negsuc k) ≡ answered (negsuc k)
  is_duration_back h = rw (lt-ltb k (2 ^ 63) h)

  pub no_duration_back : 2 ^ 63 ≤ k → duration_of (negsuc k) ≡ refused 1
  no_duration_back h = rw (le-ltb k (2 ^ 63) h)

-- what is answered as a count is the exact result, and has 64 bits
pub the_count : (z : ℤ) {k : ℕ} → count_of z ≡ answered k → (pos k ≡ z) × (k < 2 ^ 64)
the_count (negsuc j) e = absurd (no_refusal _ e refl)
the_count (pos j) {k} e = go (dec_lt j (2 ^ 64))
  where
    go : Dec (j < 2 ^ 64) → (pos k ≡ pos j) × (k < 2 ^ 64)
    go (yes h) = let is = one_answer (count_of (pos j)) e (is_count j h) in (ap pos is, omega arith)
    go (no h) = absurd (no_refusal _ e (no_count_lem j (omega (arith, h))))
