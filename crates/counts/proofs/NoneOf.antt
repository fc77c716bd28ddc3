-- A number that is none of the first n is not below n: what the last arm of a match on a number knows.
use mathlib.Core.Path.{◌≡◌}
use Prim.Native.Nat.{ℕ, zero, suc, ◌≤◌}
use native.Mathlib.Omega.{arith}

abbrev pub NoneOf : ℕ → ℕ → Type 0
NoneOf zero x = Unit {0}
NoneOf (suc n) x = NoneOf n x × (x ≡ n → ⊥)

pub at_least : (n x : ℕ) → NoneOf n x → n ≤ x
at_least zero x h = omega arith
at_least (suc n) x h = omega (arith, at_least n x h.0, h.1)
