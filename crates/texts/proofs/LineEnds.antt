-- The search for a line end: what bytes without one say, and what a step of the search finds.
use mathlib.Core.Path.{◌≡◌, refl, sym, ap, ◌∙◌}
use mathlib.Core.Bool.{Bool, true, false, cond, not, ◌&&◌}
use mathlib.Core.List.{List, [], ◌∷◌, ◌++◌}
use Prim.Native.Nat.{ℕ, suc, ◌+◌, ◌≤◌, ◌<◌}
use native.Mathlib.Nat.{zero-add, suc-add}
use native.Mathlib.Numerals.{add-one}
use native.Mathlib.Omega.{arith}
use borrow.Author.Tests.{eq-eqb, ne_eqb, eqb-true, not-true}
use lib.Dec.{eqb}
use lib.ListN.{length, get_or, take, drop, length-append, length-drop}
use lib.Seq.{drop-cons, drop-drop, drop-append_seam}
use Rattle.words.proofs.WayBack.{first_half, second_half}
use Rattle.std.specs.List.{fold}
use Rattle.std.specs.Prelude.{◌==◌}
use Rattle.texts.specs.Ends.{has_no_end, until_end, NoEndBetween}

-- the byte at a place inside, and those after it
module _ (s : List ℕ) (i : ℕ) (inside : i < length s) where
  pub found : get_or s i 0 ≡ 10 → until_end (drop i s) ≡ 0
  found e = rw (drop-cons s i 0 inside, eq-eqb (get_or s i 0) 10 e)

  pub passed : (get_or s i 0 ≡ 10 → ⊥) → until_end (drop i s) ≡ suc (until_end (drop (i + 1) s))
  passed e = rw (add-one, drop-cons s i 0 inside, ne_eqb (get_or s i 0) 10 e)

-- the bytes tested one after the other, from the test of those before
pub folded : (s : List ℕ) (before : Bool) → fold (λ none b. none && not (b == 10)) before s ≡ (before && has_no_end s)
folded [] true = refl
folded [] false = refl
folded (b ∷ s) true = folded s (not (eqb b 10))
folded (b ∷ s) false = folded s false

-- no byte ends a line: not the first, and none of the others
pub no_end : (b : ℕ) (bs : List ℕ) → has_no_end (b ∷ bs) ≡ true → (eqb b 10 ≡ false) × (has_no_end bs ≡ true)
no_end b bs e =
    let here = not (eqb b 10) in
    (not-true (eqb b 10) (first_half here (has_no_end bs) e), second_half here (has_no_end bs) e)

-- bytes without an end are passed over
passed_over : (w rest : List ℕ) → has_no_end w ≡ true → until_end (w ++ rest) ≡ length w + until_end rest
passed_over [] rest e = sym (zero-add (until_end rest))
passed_over (b ∷ w) rest e =
    let free = no_end b w e in
    rw (free.0, suc-add) (ap suc (passed_over w rest free.1))

-- and so is a window of them, from a place on
module _ (s w rest : List ℕ) (at i : ℕ) (here : drop i s ≡ w ++ rest) (size : length w ≡ 16) where
  pub rest_is : rest ≡ drop (i + 16) s
  rest_is = rw size at (sym (drop-append_seam w rest)) ∙ sym (ap (drop 16) here) ∙ drop-drop 16 i s

  pub window_passed : NoEndBetween s at i → has_no_end w ≡ true → NoEndBetween s at (i + 16)
  window_passed before free =
      let next : until_end (drop i s) ≡ 16 + until_end (drop (i + 16) s)
      = rw (here, ← rest_is, ← size) (passed_over w rest free) in
      let room : length (drop i s) ≡ length w + length rest = rw here (length-append w rest) in
      (omega (arith, next, before.0), omega (arith, room, length-drop i s))

-- the first k bytes end no line, and the one after them does
abbrev pub EndsAt : ℕ → List ℕ → Type 0
EndsAt k s = (k ≤ length s) × (has_no_end (take k s) ≡ true) × (k < length s → get_or s k 0 ≡ 10)

pub ends_at : (s : List ℕ) → EndsAt (until_end s) s
ends_at [] = (omega arith, refl, λ h. omega arith)
ends_at (b ∷ s) = by_byte (eqb b 10) refl (ends_at s)
  where
    by_byte : (t : Bool) → eqb b 10 ≡ t → EndsAt (until_end s) s → EndsAt (cond t 0 (suc (until_end s))) (b ∷ s)
    by_byte true e rest = (omega arith, refl, λ h. eqb-true b 10 e)
    by_byte false e rest = (omega arith, rw e rest.1, λ h. rest.2 (omega arith))
