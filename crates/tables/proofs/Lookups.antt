-- A lookup in a valid list answers by the last entry at or below the reading.
use Rattle.std.specs.Prelude.{None}
use mathlib.Core.Path.{◌≡◌, refl, ap, ◌∙◌}
use mathlib.Core.Bool.{true}
use mathlib.Core.List.{List, []}
use mathlib.Core.Option.{some}
use Prim.Native.Nat.{ℕ, suc, ◌-◌, ◌≤◌, ◌<◌}
use native.Mathlib.Omega.{arith}
use native.Mathlib.Decide.{dec_lt}
use lib.ListN.{length, get_or, get_elem?, drop}
use lib.IntN.{pos}
use Rattle.tables.specs.Entries.{Entry, threshold, entry, valid, telling, lookup}
use Rattle.tables.proofs.FirstSlots.{some_at}
use Rattle.tables.proofs.Neighbours.{thresholds_rise}
use Rattle.tables.proofs.InForce.{Reached, in_force_lem}
use Rattle.tables.proofs.Tested.{in_range, at_place}

-- what is in force at t, by the entry that tells it
pub record LooksUp (es : List Entry) (t : ℕ) : Type 0 where
  pub none : es ≡ [] → lookup es t ≡ record { offset = pos 19; place = None; next = None }
  pub before : (e : Entry) → get_elem? es 0 ≡ some e → t < threshold e → lookup es t ≡ telling 0 e (drop 1 es)
  -- the entry at place k is at or below t, and every later one above
  pub last : (k : ℕ) (e : Entry) → get_elem? es k ≡ some e → threshold e ≤ t
      → ((j : ℕ) (f : Entry) → k < j → get_elem? es j ≡ some f → t < threshold f)
      → lookup es t ≡ telling k e (drop (suc k) es)

module _ (es : List Entry) (t : ℕ) (v : valid es ≡ true) where
  abbrev d : Entry
  d = entry 0 (pos 0)

  -- a reading below the first threshold is below all
  below_all : (e : Entry) → get_elem? es 0 ≡ some e → t < threshold e → Reached es d t 0
  below_all e h l = record { within = omega arith; below = λ i b. absurd (omega arith); above = λ i a b. go i b (dec_lt 0 i) }
    where
      first : t < threshold (get_or es 0 d)
      first = rw (at_place es 0 e d h) l

      go : (i : ℕ) → i < length es → Dec (0 < i) → t < threshold (get_or es i d)
      go i b (yes p) = omega (arith, thresholds_rise es d v 0 i p b, first)
      go i b (no n) = let z : i ≡ 0 = omega (arith, n) in rw z first

  up_to : (k : ℕ) (e : Entry) → get_elem? es k ≡ some e → threshold e ≤ t
      → ((j : ℕ) (f : Entry) → k < j → get_elem? es j ≡ some f → t < threshold f) → Reached es d t (suc k)
  up_to k e h l later = record {
    within = in_range es k e d h;
    below = λ i b. go i (dec_lt i k) b;
    above = λ i a b. later i (get_or es i d) a (some_at es i d b);
  }
    where
      here : threshold (get_or es k d) ≤ t
      here = rw (at_place es k e d h) l

      go : (i : ℕ) → Dec (i < k) → i < suc k → threshold (get_or es i d) ≤ t
      go i (yes p) b = omega (arith, thresholds_rise es d v i k p (in_range es k e d h), here)
      go i (no n) b = let z : i ≡ k = omega (arith, n) in rw z here

  pub looks_up : LooksUp es t
  unfolding lookup
  looks_up = record {
    none = λ z. rw z refl;
    before = λ e h l.
        in_force_lem t 0 d es (in_range es 0 e d h) (below_all e h l)
        ∙ ap (λ (f : Entry). telling 0 f (drop 1 es)) (at_place es 0 e d h);
    last = λ k e h l later.
        let r = in_range es k e d h in
        let s : suc k - 1 ≡ k = omega arith in
        (rw s at (in_force_lem t (suc k) d es (omega arith) (up_to k e h l later)))
        ∙ ap (λ (f : Entry). telling k f (drop (suc k) es)) (at_place es k e d h);
  }
