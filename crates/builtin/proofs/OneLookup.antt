-- The two lookups of UTC to GPS by the built-in table are one: the last one is told by the number of events that the
-- UTC count is a second past.
use mathlib.Core.Path.{◌≡◌, refl, sym, ap, ◌∙◌}
use mathlib.Core.List.{List, [], ◌∷◌, map}
use Prim.Native.Nat.{ℕ, suc, ◌+◌, ◌-◌, ◌*◌, ◌^◌, ◌≤◌, ◌<◌}
use native.Mathlib.Omega.{arith}
use native.Mathlib.Decide.{dec_le}
use lib.Dec.{lit≤}
use lib.IntN.{pos}
use lib.ListN.{length}
use Rattle.counts.specs.Units.{second}
use Rattle.calendar.specs.Formula.{formula, era, yoe, doy, doe}
use Rattle.tables.specs.Entries.{Entry, threshold, offset, entry, lookup, offset_at}
use Rattle.tables.specs.declared.Lookup.{Lookup}
use Rattle.tables.proofs.Reached as entries
use Rattle.conversions.specs.Conversions.{E, first_reading, second_reading, last_reading}
use Rattle.conversions.proofs.SinceEpoch.{since, before}
use Rattle.builtin.specs.Builtin.{builtin, events, threshold_of, entries_from}
use Rattle.builtin.specs.Reached.{count_reached, past_events, told_at}
use Rattle.builtin.proofs.Counted.{later, first, chained, in_force_lem, of_entries}

-- entries with the UTC counts a second past their events, where k events are before them
moved : ℕ → List Entry → List Entry
moved k [] = []
moved k (e ∷ es) = entry (threshold e + E - (19 + k) * second) (offset e) ∷ moved (suc k) es

reached : (x t : ℕ) → x ≤ t → 1 - (x - t) ≡ 1
reached x t l = omega arith

shifted : (x u k : ℕ) → E ≤ u + 19 * second → k ≤ 63
    → x - (u + 19 * second - E + k * second) ≡ x + E - (19 + k) * second - u
shifted x u k l few = omega arith

module _ (u : ℕ) where
  -- none is passed within a day of the entry before them
  none_moved : (k : ℕ) (p : Entry) (es : List Entry) → entries.Chain p es → k + length es ≤ 63
      → u + 19 * second < threshold p + E + second → entries.reached (moved k es) u ≡ 0
  unfolding moved entries.reached
  none_moved k p [] c few l = refl
  none_moved k p (e ∷ es) c few l = omega (arith, none_moved (suc k) e es c.2 (omega arith) (omega arith))

  module _ (late : E ≤ u + 19 * second) where
    -- the first reading, and the second where it has passed m events
    abbrev a : ℕ
    a = u + 19 * second - E

    -- the second reading passes as many thresholds as the count passes moved ones
    one_way : (k : ℕ) (p : Entry) (es : List Entry) → entries.Chain p es → k + length es ≤ 63
        → entries.reached es (a + (k + entries.reached es a) * second) ≡ entries.reached (moved k es) u
    unfolding moved entries.reached
    one_way k p [] c few = refl
    one_way k p (e ∷ es) c few = by_order (dec_le (threshold e) a) (one_way (suc k) e es c.2 (omega arith))
      where
        by_order : Dec (threshold e ≤ a)
            → entries.reached es (a + (suc k + entries.reached es a) * second) ≡ entries.reached (moved (suc k) es) u
            → entries.reached (e ∷ es) (a + (k + entries.reached (e ∷ es) a) * second)
            ≡ entries.reached (moved k (e ∷ es)) u
        by_order (yes h) rest =
            let m : k + (1 - (threshold e - a) + entries.reached es a) ≡ suc k + entries.reached es a =
            omega (arith, h) in
            let left = reached (threshold e) (a + (suc k + entries.reached es a) * second) (omega (arith, h)) in
            let right = reached (threshold e + E - (19 + k) * second) u (omega (arith, h)) in
            rw m ((λ i. left i + rest i) ∙ ap (λ (n : ℕ). n + entries.reached (moved (suc k) es) u) (sym right))
        by_order (no h) rest =
            let none = entries.none_within_a_day e es a c.2 (omega (arith, h)) in
            let m : k + (1 - (threshold e - a) + entries.reached es a) ≡ k = omega (arith, h, none) in
            let none_yet = entries.none_within_a_day e es (a + k * second) c.2 (omega (arith, h)) in
            let rest = none_yet ∙ sym (none_moved (suc k) e es c.2 (omega arith) (omega (arith, h))) in
            rw m (λ i. 1 - shifted (threshold e) u k late (omega arith) i + rest i)

-- of the built-in table
few_later : 0 + length later ≤ 63
unfolding later entries_from events
few_later = lit≤ tt

moved_are : map threshold (moved 0 later) ≡ past_events
unfolding moved later events threshold_of entries_from formula era yoe doy doe past_events
moved_are = refl

module _ (u : ℕ) (count : u < 2 ^ 64) where
  past : entries.reached (moved 0 later) u ≡ count_reached u past_events
  past = of_entries (moved 0 later) u ∙ ap (count_reached u) moved_are

  -- by the two readings
  by_readings : (a b : ℕ) → first_reading u ≡ a → second_reading u (pos (19 + entries.reached later a)) a ≡ b
      → entries.reached later b ≡ entries.reached (moved 0 later) u
      → lookup builtin (last_reading builtin u) ≡ told_at (count_reached u past_events)
  by_readings a b ea eb same =
      ap (λ (x : ℕ). lookup builtin (second_reading u (offset_at builtin x) x)) ea
      ∙ ap (λ (l : Lookup). lookup builtin (second_reading u l.offset a)) (in_force_lem a)
      ∙ ap (lookup builtin) eb
      ∙ in_force_lem b
      ∙ ap told_at (same ∙ past)

  pub one_lookup : lookup builtin (last_reading builtin u) ≡ told_at (count_reached u past_events)
  unfolding first
  one_lookup = by_time (dec_le E (u + 19 * second))
    where
      by_time : Dec (E ≤ u + 19 * second)
          → lookup builtin (last_reading builtin u) ≡ told_at (count_reached u past_events)
      by_time (yes late) =
          let few = entries.few later (a u late) in
          by_readings (a u late) (a u late + (0 + entries.reached later (a u late)) * second)
          (since 0 u (19 * second) late (omega arith))
          (since (a u late) u ((19 + entries.reached later (a u late)) * second) (omega (arith, late))
          (omega (arith, few, few_later)) ∙ omega (arith, late))
          (one_way u late 0 first later chained few_later)
      by_time (no early) =
          let none = entries.none_within_a_day first later 0 chained (omega arith) in
          by_readings 0 0 (before 0 u (19 * second) (omega (arith, early)))
          (ap (λ (n : ℕ). second_reading u (pos (19 + n)) 0) none ∙ before 0 u (19 * second) (omega (arith, early)))
          (none ∙ sym (none_moved u 0 first later chained few_later (omega (arith, early))))
