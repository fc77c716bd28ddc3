-- What writing an image says of the bytes that are left.
use mathlib.Core.Path.{◌≡◌, ap, ◌∙◌}
use mathlib.Core.Bool.{Bool, true, false, cond}
use Prim.Native.Nat.{ℕ}
use native.Mathlib.Omega.{arith}

module _ {T B : Type 0} (img : T → B) (s : Bool) (t : T) (b : B) {k : ℕ} {x : B} where
  -- a table that was built is written
  pub written : {m : ℕ} (p : ℕ × T) → ◌≡◌ {A = ℕ × B} (k, x) (cond s (0, img t) (8, b)) → k ≡ 0
      → ◌≡◌ {A = ℕ × T} (m, t) p
      → ◌≡◌ {A = ℕ × B} (m, x) (cond s (p.0, img p.1) (8, b))
  written {m} p e z f = by_size s e
    where
      never : {n : ℕ} → n ≡ 8 → n ≡ 0 → ⊥
      never e z = omega arith

      by_size : (s : Bool) → ◌≡◌ {A = ℕ × B} (k, x) (cond s (0, img t) (8, b))
          → ◌≡◌ {A = ℕ × B} (m, x) (cond s (p.0, img p.1) (8, b))
      by_size true e = λ i. ((f i).0, (ap (λ (q : ℕ × B). q.1) e ∙ ap (λ (q : ℕ × T). img q.1) f) i)
      by_size false e = absurd (never (ap (λ (q : ℕ × B). q.0) e) z)

  -- bytes that are no image are left
  pub not_written : (p : ℕ × B) → ◌≡◌ {A = ℕ × B} (k, x) (cond s (0, img t) (8, b)) → (k ≡ 0 → ⊥)
      → ◌≡◌ {A = ℕ × B} (k, x) (cond s p (8, b))
  not_written p e n = by_size s e
    where
      by_size : (s : Bool) → ◌≡◌ {A = ℕ × B} (k, x) (cond s (0, img t) (8, b))
          → ◌≡◌ {A = ℕ × B} (k, x) (cond s p (8, b))
      by_size true e = absurd (n (ap (λ (q : ℕ × B). q.0) e))
      by_size false e = e
