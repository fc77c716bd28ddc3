-- What a search by halves finds among rising thresholds, and what a lookup by slots tells. Only contracts of private
-- functions cite it.
use Rattle.std.specs.Prelude.{cond, List, ℕ, ◌+◌, ◌≤◌, ◌<◌, ltb, ℤ, pos, get_or, None, Some}
use Rattle.tables.specs.declared.Lookup.{Lookup}

-- the first n thresholds rise strictly
pub record Rises (xs : List ℕ) (n : ℕ) : Type 0 where
  pub rises : (i j : ℕ) → i < j → j < n → get_or xs i 0 < get_or xs j 0

-- of the first n thresholds the first k are at or below t, and the rest above it
pub record AtOrBelow (xs : List ℕ) (n t k : ℕ) : Type 0 where
  pub within : k ≤ n
  pub below : (i : ℕ) → i < k → get_or xs i 0 ≤ t
  pub above : (i : ℕ) → k ≤ i → i < n → t < get_or xs i 0

-- what a lookup in the first n slots tells, where the entry in slot i is in force
abbrev pub slot_told : List ℕ → List ℤ → ℕ → ℕ → Lookup
slot_told xs zs n i = record {
  offset = get_or zs i (pos 0);
  place = Some i;
  next = cond (ltb (i + 1) n) (Some (get_or xs (i + 1) 0)) None;
}
