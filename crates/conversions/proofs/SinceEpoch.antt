-- UTC counts since 1980-01-06, and some nanoseconds on: as naturals, where that is a count.
use mathlib.Core.Path.{◌≡◌, ap, ◌∙◌}
use Prim.Native.Nat.{ℕ, ◌+◌, ◌-◌, ◌^◌, ◌≤◌, ◌<◌}
use native.Mathlib.Omega.{arith}
use borrow.Author.Tests.{lt-ltb}
use lib.IntN.{ℤ, pos, sub_ℕ, ◌+ℤ◌, ◌-ℤ◌}
use Rattle.counts.proofs.Difference.{not_below, below, of_naturals, plus}
use Rattle.conversions.specs.Conversions.{E, count_or}

pub since_E : (u j : ℕ) → pos u -ℤ pos E +ℤ pos j ≡ sub_ℕ (u + j) E
since_E u j = ap (λ (z : ℤ). z +ℤ pos j) (of_naturals u E) ∙ plus u E j

pub since : (d u j : ℕ) → E ≤ u + j → u + j < 2 ^ 64 + E → count_or d (pos u -ℤ pos E +ℤ pos j) ≡ u + j - E
since d u j l m = rw (since_E u j, not_below (u + j) E l, lt-ltb (u + j - E) (2 ^ 64) (omega arith))

pub before : (d u j : ℕ) → u + j < E → count_or d (pos u -ℤ pos E +ℤ pos j) ≡ d
before d u j l = rw (since_E u j, below (u + j) E l)
