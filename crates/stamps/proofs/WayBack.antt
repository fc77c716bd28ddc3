-- The form there and back: what is written is read as it was, and what is read is written as it was.
use mathlib.Core.Path.{◌≡◌, refl, sym, ap, ◌∙◌}
use mathlib.Core.Bool.{true, ◌&&◌, false≢true}
use mathlib.Core.List.{List, [], ◌∷◌, ◌++◌, append_assoc}
use Prim.Native.Nat.{ℕ, ◌+◌, ◌≤◌}
use native.Mathlib.Omega.{arith}
use borrow.Author.Tests.{le-leb, leb-true}
use lib.Dec.{leb}
use lib.IntN.{pos, nat_abs}
use lib.ListN.{take, drop, replicate, take-append-drop, drop_of_length-le}
use lib.Seq.{drop-drop}
use Rattle.refusals.specs.Outcome.{answered}
use Rattle.civil.specs.Fields.{fields}
use Rattle.civil.specs.declared.CivilDateTime.{CivilDateTime}
use Rattle.words.specs.Decimal.{value_of, in_digits}
use Rattle.words.proofs.Writing.{digits_length}
use Rattle.words.proofs.WayBack.{first_half, second_half, value_of_digits, digits_are_digits}
use Rattle.stamps.specs.Form.{Fits, field, fields_at, first, last, stamp_read, within, written}
use Rattle.stamps.proofs.Between.{rest-within}
use Rattle.stamps.proofs.Fields.{digits-before, long, same_digits}

-- a number in k digits and a mark, before bytes that are within
before : (k n mark : ℕ) (l h s : List ℕ) → within l h s ≡ true
    → within (replicate k 48 ++ (mark ∷ l)) (replicate k 57 ++ (mark ∷ h)) (in_digits k n ++ (mark ∷ s)) ≡ true
before k n mark l h s e =
    let here : leb mark mark ≡ true = le-leb mark mark (omega arith) in
    rw digits_length at
    (digits-before (in_digits k n) (mark ∷ l) (mark ∷ h) (mark ∷ s) (digits_are_digits k n) (rw here e))

module _ (f : CivilDateTime) where
  -- what is written of any fields is in the form
  pub in_form : within first last (written f) ≡ true
  in_form =
      let s = written f in
      before 4 (nat_abs f.year) 45 (drop 5 first) (drop 5 last) (drop 5 s)
      (before 2 f.month 45 (drop 8 first) (drop 8 last) (drop 8 s)
      (before 2 f.day 84 (drop 11 first) (drop 11 last) (drop 11 s)
      (before 2 f.hour 58 (drop 14 first) (drop 14 last) (drop 14 s)
      (before 2 f.minute 58 (drop 17 first) (drop 17 last) (drop 17 s)
      (before 2 f.second 46 (drop 20 first) (drop 20 last) (drop 20 s) (before 9 f.nanos 90 [] [] [] refl))))))

  fields_back : Fits f → fields_at (written f) ≡ f
  fields_back h =
      let year = ap pos (value_of_digits 4 (nat_abs f.year) h.year) ∙ sym h.natural in
      λ i. fields (year i) (value_of_digits 2 f.month h.month i) (value_of_digits 2 f.day h.day i)
      (value_of_digits 2 f.hour h.hour i) (value_of_digits 2 f.minute h.minute i)
      (value_of_digits 2 f.second h.second i) (value_of_digits 9 f.nanos h.nanos i)

  -- reading what was written gives the fields
  pub written-reads : Fits f → stamp_read (written f) ≡ answered f
  unfolding stamp_read
  written-reads h = rw in_form (ap answered (fields_back h))

-- a mark is the one byte from itself up to itself
the_mark : (mark : ℕ) (l h s : List ℕ) → within (mark ∷ l) (mark ∷ h) s ≡ true → s ≡ mark ∷ drop 1 s
the_mark mark l h [] e = absurd (false≢true e)
the_mark mark l h (b ∷ s) e =
    let both = first_half (leb mark b && leb b mark) (within l h s) e in
    let up : mark ≤ b = leb-true mark b (first_half (leb mark b) (leb b mark) both) in
    let down : b ≤ mark = leb-true b mark (second_half (leb mark b) (leb b mark) both) in
    ap (λ (x : ℕ). x ∷ s) (omega arith)

module _ (s : List ℕ) (formed : within first last s ≡ true) where
  -- a number in digits, its mark and the rest are the bytes from its place on
  piece : (k at mark : ℕ) → take k (drop at first) ≡ replicate k 48 → take k (drop at last) ≡ replicate k 57
      → drop (at + k) first ≡ mark ∷ drop (at + k + 1) first → drop (at + k) last ≡ mark ∷ drop (at + k + 1) last
      → {rest : List ℕ} → rest ≡ drop (at + k + 1) s → field k (value_of (take k (drop at s))) mark ++ rest ≡ drop at s
  piece k at mark zeros nines low high e =
      let after = rw (low, high) at (rest-within (at + k) first last s formed) in
      let marked = the_mark mark (drop (at + k + 1) first) (drop (at + k + 1) last) (drop (at + k) s) after in
      let digits = same_digits s formed k at zeros nines in
      rw (append_assoc, e, digits, ← drop-drop 1 (at + k) s, ← marked, ← drop-drop k at s)
      (take-append-drop k (drop at s))

  -- writing what was read gives the bytes
  pub read_writes : written (fields_at s) ≡ s
  read_writes =
      let end : drop 30 s ≡ [] = drop_of_length-le s {i = 30} (omega (arith, long s formed)) in
      piece 4 0 45 refl refl refl refl (piece 2 5 45 refl refl refl refl (piece 2 8 84 refl refl refl refl
      (piece 2 11 58 refl refl refl refl (piece 2 14 58 refl refl refl refl (piece 2 17 46 refl refl refl refl
      (piece 9 20 90 refl refl refl refl (sym end)))))))
