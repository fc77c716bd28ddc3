-- A search by halves among rising thresholds: what is at or below t stands before `low`, and what is above it from
-- `high` on.
use mathlib.Core.Path.{◌≡◌}
use mathlib.Core.List.{List}
use Prim.Native.Nat.{ℕ, ◌+◌, ◌≤◌, ◌<◌}
use native.Mathlib.Omega.{arith}
use native.Mathlib.Decide.{dec_lt}
use lib.ListN.{get_or}
use Rattle.tables.specs.Search.{Rises, AtOrBelow}

pub record Halves (xs : List ℕ) (n t low high : ℕ) : Type 0 where
  pub order : low ≤ high
  pub within : high ≤ n
  pub below : (i : ℕ) → i < low → get_or xs i 0 ≤ t
  pub above : (i : ℕ) → high ≤ i → i < n → t < get_or xs i 0

module _ (xs : List ℕ) (n t : ℕ) where
  pub whole : Halves xs n t 0 n
  whole = record { order = omega arith; within = omega arith; below = λ i l. absurd (omega arith); above = λ i l l'. absurd (omega arith) }

  pub met : (low high : ℕ) → Halves xs n t low high → high ≤ low → AtOrBelow xs n t low
  met low high h m =
      let o = h.order in
      let w = h.within in
      record { within = omega arith; below = h.below; above = λ i l l'. h.above i (omega arith) l' }

  module _ (r : Rises xs n) (low high middle : ℕ) (h : Halves xs n t low high) (a : low ≤ middle)
      (b : middle < high) where
    pub up : get_or xs middle 0 ≤ t → Halves xs n t (middle + 1) high
    up le = record { order = omega arith; within = h.within; below = λ i l. go i l (dec_lt i middle); above = h.above }
      where
        go : (i : ℕ) → i < middle + 1 → Dec (i < middle) → get_or xs i 0 ≤ t
        go i l (yes q) = let w = h.within in omega (arith, r.rises i middle q (omega arith))
        go i l (no q) = let e : i ≡ middle = omega (arith, q) in rw e le

    pub down : t < get_or xs middle 0 → Halves xs n t low middle
    down lt =
        let w = h.within in
        record { order = a; within = omega arith; below = h.below; above = λ i l l'. go i l l' (dec_lt middle i) }
      where
        go : (i : ℕ) → middle ≤ i → i < n → Dec (middle < i) → t < get_or xs i 0
        go i l l' (yes q) = omega (arith, r.rises middle i q l')
        go i l l' (no q) = let e : i ≡ middle = omega (arith, q) in rw e lt
