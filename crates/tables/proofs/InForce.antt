-- What is in force is what the last entry at or below the reading tells, or the first.
use Rattle.std.specs.Prelude.{None, Some}
use mathlib.Core.Path.{◌≡◌, refl, ap, ◌∙◌}
use mathlib.Core.Bool.{true, cond}
use mathlib.Core.List.{List, [], ◌∷◌}
use Prim.Native.Nat.{ℕ, zero, suc, ◌+◌, ◌-◌, ◌≤◌, ◌<◌}
use native.Mathlib.Omega.{arith}
use native.Mathlib.Nat.{zero-add}
use borrow.Author.Tests.{le-leb, lt-leb, lt-ltb, le-ltb}
use native.Mathlib.Decide.{dec_lt}
use lib.Dec.{ltb}
use lib.ListN.{length, get_or, drop, drop_of_length-le}
use lib.Seq.{drop-cons}
use lib.IntN.{ℤ, pos}
use Rattle.tables.specs.Entries.{Entry, threshold, offset, entry, valid, first_threshold, telling, in_force, lookup}
use Rattle.tables.specs.Slots.{slots}
use Rattle.tables.specs.Search.{Rises, AtOrBelow, slot_told}
use Rattle.tables.specs.declared.Lookup.{Lookup}
use Rattle.tables.proofs.FirstSlots.{slots_length, slot_is}
use Rattle.tables.proofs.Neighbours.{thresholds_rise}

-- the first k entries are at or below t, and the rest above it
pub record Reached (es : List Entry) (d : Entry) (t k : ℕ) : Type 0 where
  pub within : k ≤ length es
  pub below : (i : ℕ) → i < k → threshold (get_or es i d) ≤ t
  pub above : (i : ℕ) → k ≤ i → i < length es → t < threshold (get_or es i d)

-- what a lookup tells of the entry at place i
abbrev pub telling_at : List Entry → Entry → ℕ → Lookup
telling_at es d i = telling i (get_or es i d) (drop (suc i) es)

module _ (t : ℕ) where
  stays : (j : ℕ) (e f : Entry) (fs : List Entry) → t < threshold f → in_force t j e (f ∷ fs) ≡ telling (j + 0) e (f ∷ fs)
  unfolding in_force
  stays j e f fs l =
      let here : j ≡ j + 0 = omega arith in
      rw (lt-leb (threshold f) t l) (ap (λ (i : ℕ). telling i e (f ∷ fs)) here)

  -- from place j on, where e is the first entry
  from_place : (j k : ℕ) (d e : Entry) (es : List Entry) → Reached (e ∷ es) d t k
      → in_force t j e es ≡ telling (j + (k - 1)) (get_or (e ∷ es) (k - 1) d) (drop (k - 1) es)
  unfolding in_force
  from_place j k d e [] r =
      let w = r.within in
      let z : k - 1 ≡ 0 = omega arith in
      let here : j ≡ j + 0 = omega arith in
      rw z (ap (λ (i : ℕ). telling i e []) here)
  from_place j zero d e (f ∷ fs) r = stays j e f fs (r.above 1 (omega arith) (omega arith))
  from_place j (suc zero) d e (f ∷ fs) r = stays j e f fs (r.above 1 (omega arith) (omega arith))
  from_place j (suc (suc k)) d e (f ∷ fs) r =
      let w = r.within in
      let s : suc (suc k) - 1 ≡ suc k = omega arith in
      let s' : suc k - 1 ≡ k = omega arith in
      let further : j + 1 + k ≡ j + suc k = omega arith in
      let rest : Reached (f ∷ fs) d t (suc k) = record { within = omega arith; below = λ i l. r.below (suc i) (omega arith); above = λ i l l'. r.above (suc i) (omega arith) (omega arith) } in
      rw (le-leb (threshold f) t (r.below 1 (omega arith)), s)
      ((rw s' at (from_place (j + 1) (suc k) d f fs rest))
      ∙ ap (λ (i : ℕ). telling i (get_or (f ∷ fs) k d) (drop k fs)) further)

  -- the entry before the first that is above, or the first entry
  pub in_force_lem : (k : ℕ) (d : Entry) (es : List Entry) → 0 < length es → Reached es d t k
      → lookup es t ≡ telling_at es d (k - 1)
  unfolding lookup
  in_force_lem k d [] n r = absurd (omega arith)
  in_force_lem k d (e ∷ es) n r = rw (zero-add (k - 1)) at (from_place 0 k d e es r)

-- what the search counts is the place
module _ (xs : List ℕ) (zs : List ℤ) (n : ℕ) (h : n ≤ length xs) (h' : n ≤ length zs) where
  abbrev es : List Entry
  es = slots xs zs n

  abbrev d : Entry
  d = entry 0 (pos 0)

  at : (i : ℕ) → i < n → threshold (get_or es i d) ≡ get_or xs i 0
  at i l = ap threshold (slot_is xs zs n i d l h h')

  pub rises : valid es ≡ true → Rises xs n
  rises v = record {
    rises = λ i j l l'.
        let n_is = slots_length xs zs n h h' in
        rw (at i (omega arith), at j l') at (thresholds_rise es d v i j l (omega arith));
  }

  reached : (t k : ℕ) → AtOrBelow xs n t k → Reached es d t k
  reached t k p =
      let n_is = slots_length xs zs n h h' in
      let w = p.within in
      record {
        within = omega arith;
        below = λ i l. rw (at i (omega arith)) (p.below i l);
        above = λ i l l'. rw (at i (omega arith)) (p.above i l (omega arith));
      }

  -- the threshold of the first entry from place i on
  first-from : (i : ℕ) → first_threshold (drop i es) ≡ cond (ltb i n) (Some (get_or xs i 0)) None
  first-from i = by_order (dec_lt i n)
    where
      by_order : Dec (i < n) → first_threshold (drop i es) ≡ cond (ltb i n) (Some (get_or xs i 0)) None
      by_order (yes l) =
          let n_is = slots_length xs zs n h h' in
          rw (lt-ltb i n l) (ap first_threshold (drop-cons es i d (omega arith)) ∙ ap Some (at i l))
      by_order (no l) =
          let n_is = slots_length xs zs n h h' in
          rw (le-ltb i n (omega (arith, l))) (ap first_threshold (drop_of_length-le es {i = i} (omega (arith, l))))

  pub lookup_is : (t k : ℕ) → 0 < n → AtOrBelow xs n t k → lookup es t ≡ slot_told xs zs n (k - 1)
  lookup_is t k p q =
      let n_is = slots_length xs zs n h h' in
      let w = q.within in
      let one : suc (k - 1) ≡ k - 1 + 1 = omega arith in
      in_force_lem t k d es (omega arith) (reached t k q)
      ∙ (λ i. record {
        offset = offset (slot_is xs zs n (k - 1) d (omega arith) h h' i);
        place = Some (k - 1);
        next = (first-from (suc (k - 1)) ∙ ap (λ (j : ℕ). cond (ltb j n) (Some (get_or xs j 0)) None) one) i;
      })

pub none_in_force : (t : ℕ) → lookup [] 0 ≡ lookup [] t
unfolding lookup
none_in_force t = refl
