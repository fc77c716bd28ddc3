-- A scan of the first n slots by neighbours: what is left of them has the first refusal of all, and passes a test of
-- neighbours exactly if all do.
use mathlib.Core.Path.{◌≡◌, refl, sym, ap, ◌∙◌}
use mathlib.Core.Bool.{Bool, true, false, cond, ◌&&◌, false≢true}
use mathlib.Core.List.{List, [], ◌∷◌}
use Prim.Native.Nat.{ℕ, zero, suc, ◌+◌, ◌-◌, ◌≤◌, ◌<◌}
use native.Mathlib.Omega.{arith}
use borrow.Author.Tests.{ne_eqb}
use lib.Dec.{eqb}
use lib.ListN.{length, get_or, drop, length-drop}
use lib.IntN.{ℤ, pos}
use mir.Syntax.{w32}
use mir.Val.{SFits}
use Rattle.tables.specs.Entries.{Entry, entry, neighbours, follows, valid, step_refusal, first_refusal}
use Rattle.tables.specs.Slots.{slot_at, slots}
use Rattle.tables.proofs.FirstSlots.{slots_length, slot_is}
use Rattle.tables.proofs.Neighbours.{same_test, step_follows, passes_valid, at_each}

-- the number that judges the next entry is the first refusal, or else what follows has it
next_two : (es : List Entry) (k : ℕ) (d : Entry) {j : ℕ} → suc k < length es
    → j ≡ step_refusal (get_or es k d) (get_or es (suc k) d)
    → first_refusal (drop k es) ≡ cond (eqb j 0) (first_refusal (drop (suc k) es)) j
unfolding first_refusal
next_two [] k d l q = absurd (omega arith)
next_two (p ∷ []) k d l q = absurd (omega arith)
next_two (p ∷ e ∷ es) zero d l q = ap (λ (n : ℕ). cond (eqb n 0) (first_refusal (e ∷ es)) n) (sym q)
next_two (p ∷ e ∷ es) (suc k) d l q = next_two (e ∷ es) k d (omega arith) q

one_passes : (es : List Entry) → length es ≤ 1 → first_refusal es ≡ 0
unfolding first_refusal
one_passes [] l = refl
one_passes (e ∷ []) l = refl
one_passes (e ∷ f ∷ es) l = absurd (omega arith)

module _ (test : Entry → Entry → Bool) where
  -- the next two are tested, and then the rest
  tested_next : (es : List Entry) (k : ℕ) (d : Entry) → suc k < length es
      → neighbours test (drop k es) ≡ (test (get_or es k d) (get_or es (suc k) d) && neighbours test (drop (suc k) es))
  unfolding neighbours
  tested_next [] k d l = absurd (omega arith)
  tested_next (p ∷ []) k d l = absurd (omega arith)
  tested_next (p ∷ e ∷ es) zero d l = refl
  tested_next (p ∷ e ∷ es) (suc k) d l = tested_next (e ∷ es) k d (omega arith)

  one_tested : (es : List Entry) → length es ≤ 1 → neighbours test es ≡ true
  unfolding neighbours
  one_tested [] l = refl
  one_tested (e ∷ []) l = refl
  one_tested (e ∷ f ∷ es) l = absurd (omega arith)

module _ (xs : List ℕ) (zs : List ℤ) where
  module _ (i n : ℕ) (p : 1 ≤ i) (l : i < n) (h : n ≤ length xs) (h' : n ≤ length zs) where
    abbrev es : List Entry
    es = slots xs zs n

    abbrev d : Entry
    d = entry 0 (pos 0)

    -- the slot at i and the one before it
    at : (P : ℕ → Entry → Entry → Type 0) → P (suc (i - 1)) (get_or es (i - 1) d) (get_or es (suc (i - 1)) d)
        → P i (slot_at xs zs (i - 1)) (slot_at xs zs i)
    at P t =
        let e : suc (i - 1) ≡ i = omega arith in
        rw (e, slot_is xs zs n (i - 1) d (omega arith) h h', slot_is xs zs n i d l h h') at t

    in_range : suc (i - 1) < length es
    in_range = omega (arith, slots_length xs zs n h h')

    -- a slot that does not follow the one before it makes all invalid
    pub invalid_at : follows (slot_at xs zs (i - 1)) (slot_at xs zs i) ≡ false → valid es ≡ false
    invalid_at f =
        same_test (valid es) false
        (λ v. sym f ∙ at (λ k p e. follows p e ≡ true) (at_each follows es d v (i - 1) in_range))
        (λ c. absurd (false≢true c))

    module _ (test : Entry → Entry → Bool) {b : Bool} (judged : b ≡ test (slot_at xs zs (i - 1)) (slot_at xs zs i))
        (left : neighbours test (drop (i - 1) es) ≡ neighbours test es) where
      then_tested : neighbours test es ≡ (b && neighbours test (drop i es))
      then_tested =
          sym left
          ∙ at (λ j p e. b ≡ test p e → neighbours test (drop (i - 1) es) ≡ (b && neighbours test (drop j es)))
          (λ q. tested_next test es (i - 1) d in_range ∙ ap (λ (t : Bool). t && neighbours test (drop (suc (i - 1)) es)) (sym q))
          judged

      pub passes_on : b ≡ true → neighbours test (drop (i + 1 - 1) es) ≡ neighbours test es
      passes_on t = let e : i + 1 - 1 ≡ i = omega arith in rw e (sym (rw t at then_tested))

      pub fails_here : b ≡ false → false ≡ neighbours test es
      fails_here f = sym (rw f at then_tested)

    module _ (k : ℕ) (judged : k ≡ step_refusal (slot_at xs zs (i - 1)) (slot_at xs zs i))
        (left : first_refusal (drop (i - 1) es) ≡ first_refusal es) where
      next : first_refusal es ≡ cond (eqb k 0) (first_refusal (drop i es)) k
      next =
          sym left
          ∙ at
          (λ j p e. k ≡ step_refusal p e → first_refusal (drop (i - 1) es) ≡ cond (eqb k 0) (first_refusal (drop j es)) k)
          (next_two es (i - 1) d in_range) judged

      pub goes_on : k ≡ 0 → first_refusal (drop (i + 1 - 1) es) ≡ first_refusal es
      goes_on z = let e : i + 1 - 1 ≡ i = omega arith in rw e (sym (rw z at next))

      pub stops : SFits w32 (get_or zs i (pos 0)) → (k ≡ 0 → ⊥) → (k ≡ first_refusal es) × (eqb k 0 ≡ valid es)
      stops fits n =
          let no = ne_eqb k 0 n in
          let follows_is = ap (λ (j : ℕ). eqb j 0) judged ∙ step_follows (slot_at xs zs (i - 1)) (slot_at xs zs i) fits in
          (sym (rw no at next), no ∙ sym (invalid_at (sym follows_is ∙ no)))

  pub passed : (i n : ℕ) → n ≤ i → n ≤ length xs → n ≤ length zs
      → first_refusal (drop (i - 1) (slots xs zs n)) ≡ first_refusal (slots xs zs n)
      → (0 ≡ first_refusal (slots xs zs n)) × (true ≡ valid (slots xs zs n))
  passed i n l h h' left =
      let few = length-drop (i - 1) (slots xs zs n) in
      let n_is = slots_length xs zs n h h' in
      let z = sym left ∙ one_passes (drop (i - 1) (slots xs zs n)) (omega arith) in
      (sym z, sym (passes_valid (slots xs zs n) z))

  pub all-passed : (test : Entry → Entry → Bool) (i n : ℕ) → n ≤ i → n ≤ length xs → n ≤ length zs
      → neighbours test (drop (i - 1) (slots xs zs n)) ≡ neighbours test (slots xs zs n)
      → true ≡ neighbours test (slots xs zs n)
  all-passed test i n l h h' left =
      let few = length-drop (i - 1) (slots xs zs n) in
      let n_is = slots_length xs zs n h h' in
      sym (one_tested test (drop (i - 1) (slots xs zs n)) (omega arith)) ∙ left
