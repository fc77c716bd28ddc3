-- The walk over days takes a later TAI reading to a later day, or on the same day to more nanoseconds: from the
-- lengths of days alone.
use mathlib.Core.Path.{◌≡◌, refl}
use mathlib.Core.Bool.{Bool, true, false, cond}
use mathlib.Core.List.{List}
use mathlib.Core.Logic.{◌⊎◌, inl, inr}
use Prim.Native.Nat.{ℕ, zero, suc, ◌+◌, ◌-◌, ◌*◌, ◌≤◌, ◌<◌}
use native.Mathlib.Omega.{arith}
use native.Mathlib.Decide.{dec_lt}
use borrow.Author.Tests.{lt-ltb, le-ltb}
use lib.Dec.{ltb}
use lib.ListN.{drop}
use Rattle.counts.specs.Units.{second}
use Rattle.tables.specs.Entries.{Entry, day}
use Rattle.readings.specs.Readings.{some_begins_at, length_of_day, day_from}

-- a day and the nanoseconds of it are before another day and its nanoseconds
abbrev pub Sooner : ℕ × ℕ → ℕ × ℕ → Type 0
Sooner a b = (a.0 < b.0) ⊎ ((a.0 ≡ b.0) × (a.1 < b.1))

-- where the day that begins at b ends
abbrev pub end_of : List Entry → ℕ → ℕ
end_of es b = b + length_of_day es b

pub day_length : (es : List Entry) (b : ℕ) → (day ≤ length_of_day es b) × (length_of_day es b ≤ day + second)
day_length es b = either (some_begins_at (b + (day + second)) (drop 1 es))
  where
    either : (c : Bool) → (day ≤ cond c (day + second) day) × (cond c (day + second) day ≤ day + second)
    either true = omega arith
    either false = omega arith

module _ (es : List Entry) where
  -- the walk ends on the day where it is, or goes on
  pub ends : (t n z b : ℕ) → t < end_of es b → day_from es t n z b ≡ (z, t - b)
  unfolding day_from
  ends t zero z b h = refl
  ends t (suc n) z b h = rw (lt-ltb t (end_of es b) h)

  pub goes_on : (t n z b : ℕ) → end_of es b ≤ t → day_from es t (suc n) z b ≡ day_from es t n (suc z) (end_of es b)
  unfolding day_from
  goes_on t n z b h = rw (le-ltb t (end_of es b) h)

  pub no_day_before : (t n z b : ℕ) → z ≤ (day_from es t n z b).0
  unfolding day_from
  no_day_before t zero z b = omega arith
  no_day_before t (suc n) z b = either (ltb t (end_of es b)) _ (no_day_before t n (suc z) (end_of es b))
    where
      either : (c : Bool) (a : ℕ × ℕ) → suc z ≤ a.0 → z ≤ (cond c (z, t - b) a).0
      either true a h = omega arith
      either false a h = omega arith

  -- with days enough to walk, the nanoseconds are fewer than those of the longest day
  pub within_a_day : (t n z b : ℕ) → t < b + suc n * day → (day_from es t n z b).1 < day + second
  unfolding day_from
  within_a_day t zero z b enough = omega arith
  within_a_day t (suc n) z b enough =
      by_length (dec_lt t (end_of es b)) (day_length es b) (within_a_day t n (suc z) (end_of es b))
    where
      by_length : Dec (t < end_of es b) → (day ≤ length_of_day es b) × (length_of_day es b ≤ day + second)
          → (t < end_of es b + suc n * day → (day_from es t n (suc z) (end_of es b)).1 < day + second)
          → (day_from es t (suc n) z b).1 < day + second
      by_length (yes h) size later = rw (ends t (suc n) z b h) (omega arith)
      by_length (no h) size later =
          let past : end_of es b ≤ t = omega (arith, h) in
          rw (goes_on t n z b past) (later (omega arith))

  -- from a reading on the day where the walks begin
  from_first_day : (t t' n n' z b : ℕ) → b ≤ t → t < t' → t < end_of es b → t' < b + suc n' * day
      → Sooner (day_from es t n z b) (day_from es t' n' z b)
  from_first_day t t' n n' z b from rise h enough =
      rw (ends t n z b h) (by_length n' enough (dec_lt t' (end_of es b)))
    where
      by_length : (n' : ℕ) → t' < b + suc n' * day → Dec (t' < end_of es b) → Sooner (z, t - b) (day_from es t' n' z b)
      by_length n' enough (yes h') = rw (ends t' n' z b h') (inr (refl, omega arith))
      by_length zero enough (no h') = absurd (omega (arith, h', day_length es b))
      by_length (suc n') enough (no h') =
          let past : end_of es b ≤ t' = omega (arith, h') in
          rw (goes_on t' n' z b past) (inl (no_day_before t' n' (suc z) (end_of es b)))

  -- a later reading is on a later day, or later on the same day
  pub walk_rises : (t t' n n' z b : ℕ) → b ≤ t → t < t' → t < b + suc n * day → t' < b + suc n' * day
      → Sooner (day_from es t n z b) (day_from es t' n' z b)
  walk_rises t t' zero n' z b from rise enough enough' =
      from_first_day t t' zero n' z b from rise (omega (arith, day_length es b)) enough'
  walk_rises t t' (suc n) zero z b from rise enough enough' =
      from_first_day t t' (suc n) zero z b from rise (omega (arith, day_length es b)) enough'
  walk_rises t t' (suc n) (suc n') z b from rise enough enough' =
      by_length (dec_lt t (end_of es b))
      (λ past. walk_rises t t' n n' (suc z) (end_of es b) past rise (omega (arith, day_length es b))
      (omega (arith, day_length es b)))
    where
      by_length : Dec (t < end_of es b)
          → (end_of es b ≤ t → Sooner (day_from es t n (suc z) (end_of es b)) (day_from es t' n' (suc z) (end_of es b)))
          → Sooner (day_from es t (suc n) z b) (day_from es t' (suc n') z b)
      by_length (yes h) later = from_first_day t t' (suc n) (suc n') z b from rise h enough'
      by_length (no h) later =
          let past : end_of es b ≤ t = omega (arith, h) in
          rw (goes_on t n z b past, goes_on t' n' z b (omega arith)) (later past)
