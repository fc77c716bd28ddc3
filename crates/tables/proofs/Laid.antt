-- Thresholds and offsets that hold exactly the list of a valid table, one entry in each slot.
use mathlib.Core.Path.{◌≡◌, refl, sym, ap, ◌∙◌}
use mathlib.Core.Bool.{Bool, true, false, false≢true}
use mathlib.Core.List.{List, [], ◌∷◌}
use mathlib.Core.Option.{Option, some}
use Prim.Native.Nat.{ℕ, zero, suc, ◌+◌, ◌≤◌, ◌<◌}
use native.Mathlib.Omega.{arith}
use native.Mathlib.Decide.{dec_lt}
use native.Mathlib.Numerals.{add-one}
use borrow.Author.Tests.{leb-true, leb-false, le-leb}
use lib.Dec.{leb}
use lib.ListN.{length, get_or, get_elem?, take}
use lib.Seq.{length-take-le}
use lib.IntN.{ℤ, pos}
use Rattle.refusals.specs.Outcome.{Outcome, answered}
use Rattle.std.specs.List.{IsAllAdjacentAnswer}
use Rattle.std.specs.List.Sorted.{IsNonDecreasingBy, IsPartitionPoint}
use Rattle.std.proofs.lemmas.List.Sorted.{IsNonDecreasingBy-from_default}
use Rattle.tables.specs.Search.{Rises, AtOrBelow}
use Rattle.tables.proofs.InForce.{rises}
use Rattle.tables.specs.Entries.{Entry, threshold, offset, entry, regular, neighbours, a_day_on, day, valid}
use Rattle.tables.specs.Slots.{paired, slots, valid_slots}
use Rattle.tables.proofs.FirstSlots.{slots_length, slot_is}
use Rattle.tables.proofs.Checked.{few_and_valid}
use Rattle.tables.proofs.Neighbours.{same_test, at_each, every_place}

pub record Laid (xs : List ℕ) (zs : List ℤ) (es : List Entry) : Type 0 where
  pub list : slots xs zs (length xs) ≡ es
  pub all : length xs ≤ length xs
  pub within : length xs ≤ length zs
  pub size : length es ≡ length xs
  pub few : length xs ≤ 64
  pub is_valid : valid (slots xs zs (length xs)) ≡ true
  pub valid_list : valid es ≡ true

all_of : (xs : List ℕ) (zs : List ℤ) → slots xs zs (length xs) ≡ paired xs zs
unfolding paired
all_of [] zs = refl
all_of (x ∷ xs) [] = refl
all_of (x ∷ xs) (z ∷ zs) = ap (λ (l : List Entry). entry x z ∷ l) (all_of xs zs)

-- what the invariant of `Slots` says
abbrev pub Fits : List ℕ → List ℤ → Type 0
Fits xs zs = (length xs ≡ length zs) × (length xs ≤ 64) × (valid (paired xs zs) ≡ true)

pub laid : {xs : List ℕ} {zs : List ℤ} {es : List Entry} → paired xs zs ≡ es → Fits xs zs → Laid xs zs es
laid {xs} {zs} {es} view fits =
    let all : length xs ≤ length xs = omega arith in
    let within : length xs ≤ length zs = omega (arith, fits.0) in
    let whole = all_of xs zs in
    record {
      list = whole ∙ view;
      all = all;
      within = within;
      size = ap length (sym (whole ∙ view)) ∙ slots_length xs zs (length xs) all within;
      few = fits.1;
      is_valid = rw whole fits.2;
      valid_list = rw view at fits.2;
    }

-- the first n of both, side by side
pub cut : (n : ℕ) (xs : List ℕ) (zs : List ℤ) → paired (take n xs) (take n zs) ≡ slots xs zs n
unfolding paired
cut zero xs zs = refl
cut (suc n) [] zs = refl
cut (suc n) (x ∷ xs) [] = refl
cut (suc n) (x ∷ xs) (z ∷ zs) = ap (λ (l : List Entry). entry x z ∷ l) (cut n xs zs)

-- the slots of a valid table fit
pub cut_fits : (n : ℕ) (xs : List ℕ) (zs : List ℤ) → length xs ≡ 64 → length zs ≡ 64 → valid_slots xs zs n ≡ true
    → Fits (take n xs) (take n zs)
cut_fits n xs zs h h' v =
    let k = few_and_valid xs zs n v in
    let l = length-take-le n xs (omega (arith, k.0)) in
    let l' = length-take-le n zs (omega (arith, k.0)) in
    (l ∙ sym l', omega (arith, k.0), rw (cut n xs zs) k.1)

pub none_laid : {xs : List ℕ} {zs : List ℤ} {es : List Entry} → Laid xs zs es → length xs ≡ 0 → es ≡ []
none_laid {es = []} k z = refl
none_laid {es = e ∷ es} k z = absurd (omega (arith, k.size))

module _ {xs : List ℕ} {zs : List ℤ} {es : List Entry} (k : Laid xs zs es) where
  abbrev d : Entry
  d = entry 0 (pos 0)

  -- the threshold at a place
  at : (i : ℕ) → i < length xs → threshold (get_or es i d) ≡ get_or xs i 0
  at i l = rw k.list at (ap threshold (slot_is xs zs (length xs) i d l k.all k.within))

  -- thresholds lie a day or more apart exactly if the entries do
  pub days_told : (r : Bool) → IsAllAdjacentAnswer (λ x y b. b ≡ leb (x + day) y) xs r → r ≡ neighbours a_day_on es
  days_told true each =
      sym (every_place a_day_on es d (λ i l.
      let n_is = k.size in
      rw (at i (omega arith), at (suc i) (omega arith)) (sym (rw add-one at (each i 0 (omega arith))))))
  days_told false (i, l, late) =
      same_test false (neighbours a_day_on es) (λ f. absurd (false≢true f)) (λ v.
      let n_is = k.size in
      let day_on = at_each a_day_on es d v i (omega arith) in
      rw add-one at (late 0) ∙ (rw (at i (omega arith), at (suc i) (omega arith)) at day_on))

  pub no_fall : IsNonDecreasingBy (λ (x : ℕ). x) xs
  no_fall = IsNonDecreasingBy-from_default (λ (x : ℕ). x) xs 0 go
    where
      up : Rises xs (length xs)
      up = rises xs zs (length xs) k.all k.within k.is_valid

      go : (i j : ℕ) → i ≤ j → j < length xs → get_or xs i 0 ≤ get_or xs j 0
      go i j l l' = by_order (dec_lt i j)
        where
          by_order : Dec (i < j) → get_or xs i 0 ≤ get_or xs j 0
          by_order (yes q) = omega (arith, up.rises i j q l')
          by_order (no q) = let e : i ≡ j = omega (arith, q) in rw e (omega arith)

  pub counted : (t r : ℕ) → r ≤ length xs → IsPartitionPoint (λ x. leb x t ≡ true) (λ x. leb x t ≡ false) xs r
      → AtOrBelow xs (length xs) t r
  counted t r within point = record {
    within = within;
    below = λ i l. leb-true _ _ (point.0 i 0 (omega arith) l);
    above = λ i l l'. leb-false _ _ (point.1 i 0 l l');
  }

  -- the list is regular exactly if it is days apart, where the first entry is (0, 19)
  pub regular_told : (first : Entry) → ◌≡◌ {A = Outcome (Option Entry)} (answered (some first)) (answered (get_elem? es 0))
      → threshold first ≡ 0 → offset first ≡ pos 19 → {b : Bool} → b ≡ neighbours a_day_on es → b ≡ regular es
  regular_told first is z o days = days ∙ go es (le-leb (length es) 64 (omega (arith, k.size, k.few))) k.valid_list is
    where
      go : (es : List Entry) → leb (length es) 64 ≡ true → valid es ≡ true
          → ◌≡◌ {A = Outcome (Option Entry)} (answered (some first)) (answered (get_elem? es 0))
          → neighbours a_day_on es ≡ regular es
      go [] l v h = cc
      go (e ∷ es) l v h =
          let same : first ≡ e = cc in
          rw (l, v, ← same, z, o)
