-- An entry whose offset in seconds is at most its threshold begins a day exactly if its threshold less that many seconds
-- is a whole number of days.
use mathlib.Core.Path.{◌≡◌, ap, ◌∙◌}
use Prim.Native.Nat.{ℕ, ◌-◌, ◌*◌, ◌%◌, ◌≤◌}
use lib.Dec.{eqb}
use lib.IntN.{ℤ, pos, nat_abs, ◌-ℤ◌, ◌*ℤ◌}
use Rattle.counts.specs.Units.{second}
use Rattle.counts.proofs.Difference.{not_below, of_naturals}
use Rattle.tables.specs.Entries.{Entry, threshold, offset, day, begins_a_day}

-- an entry with an offset of n seconds, at most its threshold
pub begins_when : (e : Entry) (n : ℕ) → offset e ≡ pos n → n * second ≤ threshold e
    → begins_a_day e ≡ eqb ((threshold e - n * second) % day) 0
begins_when e n o l =
    ap (λ (z : ℤ). eqb (nat_abs (pos (threshold e) -ℤ z *ℤ pos second) % day) 0) o
    ∙ ap (λ (z : ℤ). eqb (nat_abs z % day) 0)
    (of_naturals (threshold e) (n * second) ∙ not_below (threshold e) (n * second) l)
