-- One pass over the slots: after the first i, which are valid, it knows the last threshold, the offset that
-- must come next, and the place of the entry in force among them.
use mathlib.Core.Path.{◌≡◌, refl, sym, ap, ◌∙◌}
use mathlib.Core.Bool.{true}
use mathlib.Core.List.{List, [], ◌∷◌}
use Prim.Native.Nat.{ℕ, zero, suc, ◌+◌, ◌-◌, ◌≤◌, ◌<◌}
use native.Mathlib.Omega.{arith}
use native.Mathlib.Decide.{dec_le, dec_lt}
use native.Mathlib.Numerals.{add-one}
use borrow.Author.Tests.{lt-ltb, le-ltb}
use lib.ListN.{get_or, take}
use lib.IntN.{ℤ, pos, negsuc, ◌+ℤ◌}
use mir.Syntax.{w32, w64}
use mir.Val.{SFits, to_z, of_z}
use mir.Facts.{to_z-of_z, sfits_widen}
use Rattle.refusals.specs.Outcome.{answered, refused}
use Rattle.counts.proofs.Signed.{bits_tell}
use Rattle.tables.specs.Entries.{Entry, threshold, offset, neighbours, follows, valid}
use Rattle.tables.specs.Search.{Rises, AtOrBelow}
use Rattle.tables.specs.Slots.{paired}
use Rattle.tables.specs.declared.Lookup.{Lookup}
use Rattle.tables.proofs.Halving.{whole, up, met}
use Rattle.tables.proofs.InForce.{rises}
use Rattle.tables.proofs.Integers.{equal_yes, equal_no}
use Rattle.tables.proofs.Joining.{one_more_valid}
use Rattle.images.specs.Image.{table_in}
use Rattle.images.proofs.InSlots.{table_sized}
use Rattle.images.proofs.Judged.{thresholds, slot, first_slots, Opened, told_at, answer, not_valid, tells}

-- the count of thresholds at or below t, from none and one threshold on
module _ (xs : List ℕ) (t : ℕ) where
  none-reached : AtOrBelow xs 0 t 0
  none-reached = met xs 0 t 0 0 (whole xs 0 t) (omega arith)

  all-reached : (i : ℕ) → Rises xs (i + 1) → get_or xs i 0 ≤ t → AtOrBelow xs (i + 1) t (i + 1)
  all-reached i r h =
      let n = i + 1 in
      met xs n t n n (up xs n t r 0 n i (whole xs n t) (omega arith) (omega arith) h) (omega arith)

  one_above : (i k : ℕ) → AtOrBelow xs i t k → t < get_or xs i 0 → AtOrBelow xs (i + 1) t k
  one_above i k p h = record { within = omega arith; below = p.below; above = λ j l l'. go j l l' (dec_lt j i) }
    where
      go : (j : ℕ) → k ≤ j → j < i + 1 → Dec (j < i) → t < get_or xs j 0
      go j l l' (yes q) = p.above j l q
      go j l l' (no q) = let e : j ≡ i = omega (arith, q) in rw e h

one_valid : (es : List Entry) → valid (take 1 es) ≡ true
unfolding neighbours
one_valid [] = refl
one_valid (e ∷ es) = refl

pub more_fits : (z : ℤ) → SFits w32 z → SFits w64 (z +ℤ pos 1)
more_fits (pos n) f = record { sfits = omega (arith, f.sfits) }
more_fits (negsuc zero) f = record { sfits = omega arith }
more_fits (negsuc (suc n)) f = record { sfits = simp (lt-ltb 1 (suc (suc n)) (omega arith)) (omega (arith, f.sfits)) }

module _ (b : List ℕ) (t n : ℕ) where
  -- the offset that has to come next is known by its bits
  pub record Pass (i before one_more place : ℕ) : Type 0 where
    pub opened : Opened b n
    pub some : 1 ≤ i
    pub within : i ≤ n
    pub last : before ≡ threshold (slot b (i - 1))
    pub fits : SFits w32 (offset (slot b (i - 1)))
    pub next : one_more ≡ of_z w64 (offset (slot b (i - 1)) +ℤ pos 1)
    pub passes : valid (first_slots b i) ≡ true
    pub reached : ℕ
    pub counted : AtOrBelow (thresholds b) i t reached
    pub in_force_lem : place ≡ reached - 1

  -- the pass over slot i, by its threshold; the offset in it is given as a number
  pub record Step (i place : ℕ) (given : ℤ) : Type 0 where
    pub room : SFits w64 (given +ℤ pos 1)
    pub at_or_below : threshold (slot b i) ≤ t → Pass (i + 1) (threshold (slot b i)) (of_z w64 (given +ℤ pos 1)) i
    pub above : t < threshold (slot b i) → Pass (i + 1) (threshold (slot b i)) (of_z w64 (given +ℤ pos 1)) place

module _ {b : List ℕ} {n : ℕ} (o : Opened b n) (t : ℕ) where
  -- slot i, where the slots to it are valid
  step : (i k place : ℕ) → i < n → SFits w32 (offset (slot b i)) → valid (first_slots b (suc i)) ≡ true
      → AtOrBelow (thresholds b) i t k → place ≡ k - 1 → Step b t n i place (offset (slot b i))
  step i k place l f z c e = record {
    room = more_fits _ f;
    at_or_below = λ q. on (i + 1) i (all-reached (thresholds b) t i rising q) (omega arith);
    above = λ q. on k place (one_above (thresholds b) t i k c q) e;
  }
    where
      passed : valid (first_slots b (i + 1)) ≡ true
      passed = rw add-one z

      rising : Rises (thresholds b) (i + 1)
      rising = let s = table_sized b in rises _ _ _ (omega arith) (omega arith) passed

      on : (m at : ℕ) → AtOrBelow (thresholds b) (i + 1) t m → at ≡ m - 1
          → Pass b t n (i + 1) (threshold (slot b i)) (of_z w64 (offset (slot b i) +ℤ pos 1)) at
      on m at c g =
          let s : i + 1 - 1 ≡ i = omega arith in
          record {
            opened = o;
            some = omega arith;
            within = omega arith;
            last = rw s;
            fits = rw s f;
            next = rw s;
            passes = passed;
            reached = m;
            counted = c;
            in_force_lem = g;
          }

  pub begins : 0 < n → SFits w32 (offset (slot b 0))
      → Pass b t n 1 (threshold (slot b 0)) (of_z w64 (offset (slot b 0) +ℤ pos 1)) 0
  begins l f = by_order (dec_le (threshold (slot b 0)) t)
    where
      first : Step b t n 0 0 (offset (slot b 0))
      first =
          step 0 0 0 l f (one_valid (paired (thresholds b) (table_in b).offsets)) (none-reached (thresholds b) t) refl

      by_order : Dec (threshold (slot b 0) ≤ t)
          → Pass b t n 1 (threshold (slot b 0)) (of_z w64 (offset (slot b 0) +ℤ pos 1)) 0
      by_order (yes q) = first.at_or_below q
      by_order (no q) = first.above (omega (arith, q))

  -- there is no slot
  pub none_told : {found : Lookup} → n ≡ 0 → found ≡ told_at b n 0 → answered found ≡ answer b t
  unfolding neighbours
  none_told e f = tells o t 0 (sym e) refl (none-reached (thresholds b) t) refl f

module _ {b : List ℕ} {t n i before one_more place : ℕ} (p : Pass b t n i before one_more place) where
  -- all slots are passed
  pub told : {found : Lookup} → n ≤ i → found ≡ told_at b n place → answered found ≡ answer b t
  told l f = tells p.opened t p.reached (omega arith) p.passes p.counted p.in_force_lem f

  module _ (l : i < n) where
    -- a threshold that is not above the one before
    pub not_above : threshold (slot b i) ≤ before → refused 8 ≡ answer b t
    not_above q =
        not_valid p.opened t i p.some l
        (rw (le-ltb (threshold (slot b (i - 1))) (threshold (slot b i)) (omega arith)))

    module _ (q : before < threshold (slot b i)) where
      above : threshold (slot b (i - 1)) < threshold (slot b i)
      above = omega arith

      -- an offset that is not one more
      pub not_one_more : (of_z w64 (offset (slot b i)) ≡ one_more → ⊥) → refused 8 ≡ answer b t
      not_one_more r =
          not_valid p.opened t i p.some l
          (rw (lt-ltb _ _ above, equal_no _ _ (λ e. r (ap (of_z w64) e ∙ sym p.next))))

      -- a slot that follows the one before
      pub further : SFits w32 (offset (slot b i)) → of_z w64 (offset (slot b i)) ≡ one_more
          → Step b t n i place (to_z w64 one_more)
      further f e =
          let s = table_sized b in
          let one = bits_tell (sfits_widen tt f) (more_fits _ p.fits) (e ∙ p.next) in
          let on : follows (slot b (i - 1)) (slot b i) ≡ true = rw (lt-ltb _ _ above, equal_yes _ _ one) in
          let passed =
          one_more_valid _ _ i (omega arith) (omega arith) p.some (omega arith) (omega arith) p.passes on in
          let read : to_z w64 one_more ≡ offset (slot b i) = ap (to_z w64) (sym e) ∙ to_z-of_z {w = w64} (sfits_widen tt f) in
          rw read (step p.opened t i p.reached place l f passed p.counted p.in_force_lem)
