-- What is in a line and what is in the text that begins with it: no byte that a part of a line is made of ends
-- the line, so a reader may look at the text.
use mathlib.Core.Path.{◌≡◌, refl, sym, ap, ◌∙◌}
use mathlib.Core.Bool.{Bool, true, false, cond, ◌&&◌, ◌||◌, true≢false, or-true, or-false}
use mathlib.Core.List.{List, [], ◌∷◌}
use Prim.Native.Nat.{ℕ, suc, ◌+◌, ◌-◌, ◌≤◌, ◌<◌}
use native.Mathlib.Numerals.{add-one}
use native.Mathlib.Decide.{dec_lt}
use native.Mathlib.Omega.{arith}
use borrow.Author.Tests.{eqb-true, ne_eqb}
use lib.Dec.{eqb}
use lib.ListN.{length, get_or, drop, drop_of_length-le, get_or-eq_default}
use lib.Seq.{drop-cons, length-take-le}
use Rattle.refusals.specs.Outcome.{refused}
use Rattle.words.specs.Decimal.{is_digit, count_read}
use Rattle.texts.specs.Ends.{until_end}
use Rattle.texts.proofs.FirstLine.{until_within}
use Rattle.published.specs.LeapSecondsList.{take_while, drop_while, begins, is_blank, ends_in_return}
use Rattle.published.specs.LeapSecondsList.{field_read}
use Rattle.published.specs.Places.{first_line, opens, ends_field}

pub length_line : (s : List ℕ) → length (first_line s) ≡ until_end s
length_line s = length-take-le (until_end s) s (until_within s)

-- ---- parts by a test that a line end does not pass
module _ (test : ℕ → Bool) (in_line : test 10 ≡ false) where
  fails : (b : ℕ) → eqb b 10 ≡ true → test b ≡ false
  fails b e = ap test (eqb-true b 10 e) ∙ in_line

  pub drop_line : (s : List ℕ) → drop_while test (first_line s) ≡ first_line (drop_while test s)
  unfolding drop_while
  drop_line [] = refl
  drop_line (b ∷ s) = by_byte (eqb b 10) refl (test b) refl (drop_line s)
    where
      by_byte : (t : Bool) → eqb b 10 ≡ t → (u : Bool) → test b ≡ u → drop_while test (first_line s) ≡ first_line (drop_while test s)
          → drop_while test (first_line (b ∷ s)) ≡ first_line (drop_while test (b ∷ s))
      by_byte true e true f rest = absurd (true≢false (sym f ∙ fails b e))
      by_byte true e false f rest = rw (f, e)
      by_byte false e true f rest = rw (e, f) rest
      by_byte false e false f rest = rw (e, f, e)

  pub take_line : (s : List ℕ) → take_while test (first_line s) ≡ take_while test s
  unfolding take_while
  take_line [] = refl
  take_line (b ∷ s) = by_byte (eqb b 10) refl (take_line s)
    where
      by_byte : (t : Bool) → eqb b 10 ≡ t → take_while test (first_line s) ≡ take_while test s
          → take_while test (first_line (b ∷ s)) ≡ take_while test (b ∷ s)
      by_byte true e rest = rw (e, fails b e)
      by_byte false e rest = rw (e, rest)

  pub begins-line : (s : List ℕ) → begins false test (first_line s) ≡ begins false test s
  begins-line [] = refl
  begins-line (b ∷ s) = by_byte (eqb b 10) refl
    where
      by_byte : (t : Bool) → eqb b 10 ≡ t → begins false test (first_line (b ∷ s)) ≡ test b
      by_byte true e = rw (e, fails b e)
      by_byte false e = rw e

-- a byte that does not end the line, and the line from the next byte on
pub line_on : (s : List ℕ) (at : ℕ) → at < length s → (get_or s at 0 ≡ 10 → ⊥)
    → first_line (drop at s) ≡ get_or s at 0 ∷ first_line (drop (at + 1) s)
line_on s at inside other = rw (add-one, drop-cons s at 0 inside, ne_eqb (get_or s at 0) 10 other)

-- what a text begins with, by the byte at a place of it or past its end
pub begins-byte : (test : ℕ → Bool) → test 0 ≡ false → (s : List ℕ) (i : ℕ)
    → begins false test (drop i s) ≡ test (get_or s i 0)
begins-byte test e s i = by_place (dec_lt i (length s))
  where
    by_place : Dec (i < length s) → begins false test (drop i s) ≡ test (get_or s i 0)
    by_place (yes inside) = rw (drop-cons s i 0 inside)
    by_place (no past) =
        let h : length s ≤ i = omega (arith, past) in
        rw (drop_of_length-le s {i = i} h, get_or-eq_default s 0 {n = i} h) (sym e)

-- what may follow a field
pub field_ends_line : (comment : Bool) (s : List ℕ)
    → begins true (opens comment) (first_line s) ≡ begins true (ends_field comment) s
field_ends_line comment [] = refl
field_ends_line comment (b ∷ s) = by_byte (eqb b 10) refl
  where
    by_byte : (t : Bool) → eqb b 10 ≡ t
        → begins true (opens comment) (first_line (b ∷ s)) ≡ ends_field comment b
    by_byte true e = rw (e, or-true)
    by_byte false e = rw (e, or-false)

-- the reader of a field may look at the text
pub field-line : (comment : Bool) (s : List ℕ)
    → field_read (opens comment) (first_line s)
    ≡ cond (begins false is_blank s
    && begins true (ends_field comment) (drop_while is_blank (drop_while is_digit (drop_while is_blank s))))
    (count_read (take_while is_digit (drop_while is_blank s))) (refused 12)
field-line comment s =
    rw (
      begins-line is_blank refl s,
      drop_line is_blank refl s,
      drop_line is_digit refl (drop_while is_blank s),
      drop_line is_blank refl (drop_while is_digit (drop_while is_blank s)),
      field_ends_line comment (drop_while is_blank (drop_while is_digit (drop_while is_blank s))),
      take_line is_digit refl (drop_while is_blank s),
    )

-- ---- the last byte of a line
pub return_ends : (l : List ℕ) → 0 < length l → eqb (get_or l (length l - 1) 0) 13 ≡ ends_in_return l
unfolding ends_in_return
return_ends [] some = absurd (omega arith)
return_ends (b ∷ []) some = refl
return_ends (b ∷ c ∷ cs) some =
    let k : length (b ∷ c ∷ cs) - 1 ≡ suc (length (c ∷ cs) - 1) = omega arith in
    rw (k, ne_eqb (length (c ∷ cs)) 0 (λ e. omega arith)) (return_ends (c ∷ cs) (omega arith))

pub nothing_ends : (l : List ℕ) → length l ≡ 0 → false ≡ ends_in_return l
unfolding ends_in_return
nothing_ends [] none = refl
nothing_ends (b ∷ l) none = absurd (omega arith)

-- blanks end in no return
no_return : (b : ℕ) → is_blank b ≡ true → eqb b 13 ≡ false
no_return b e = by_byte (eqb b 32) refl e
  where
    by_byte : (t : Bool) → eqb b 32 ≡ t → (t || eqb b 9) ≡ true → eqb b 13 ≡ false
    by_byte true f g = ap (λ (x : ℕ). eqb x 13) (eqb-true b 32 f)
    by_byte false f g = ap (λ (x : ℕ). eqb x 13) (eqb-true b 9 g)

pub blanks-end : (l : List ℕ) → length (drop_while is_blank l) ≡ 0 → ends_in_return l ≡ false
unfolding drop_while ends_in_return
blanks-end [] h = refl
blanks-end (b ∷ bs) h = by_byte (is_blank b) refl h (eqb (length bs) 0) (blanks-end bs)
  where
    by_byte : (t : Bool) → is_blank b ≡ t → length (cond t (drop_while is_blank bs) (b ∷ bs)) ≡ 0 → (u : Bool)
        → (length (drop_while is_blank bs) ≡ 0 → ends_in_return bs ≡ false) → cond u (eqb b 13) (ends_in_return bs) ≡ false
    by_byte true e h true rest = no_return b e
    by_byte true e h false rest = rest h
    by_byte false e h u rest = absurd (omega arith)
