-- The lines of a text, one after the other: the first line stands before the first byte 10, and the lines of what comes
-- after that byte are the others.
use mathlib.Core.Path.{◌≡◌, refl, ap}
use mathlib.Core.Bool.{Bool, true, false}
use mathlib.Core.List.{List, [], ◌∷◌}
use Prim.Native.Nat.{ℕ, ◌+◌, ◌≤◌, ◌<◌}
use native.Mathlib.Nat.{add_assoc}
use native.Mathlib.Numerals.{add-one}
use native.Mathlib.Omega.{arith}
use lib.Dec.{eqb}
use lib.ListN.{length, take, drop, length-drop, drop_of_length-le}
use lib.Seq.{drop-drop}
use Rattle.texts.specs.Lines.{prepend_byte, lines_of}
use Rattle.texts.specs.Ends.{until_end}
use Rattle.texts.proofs.LineEnds.{ends_at}

pub until_within : (s : List ℕ) → until_end s ≤ length s
until_within s = (ends_at s).0

-- a text of no bytes has no lines
pub no_lines : (s : List ℕ) → length s ≡ 0 → lines_of s ≡ []
no_lines s none = ap lines_of (drop_of_length-le s {i = 0} (omega arith))

-- any other has a first line, and the lines after it
abbrev pub FirstLine : List ℕ → Type 0
FirstLine s = lines_of s ≡ take (until_end s) s ∷ lines_of (drop (until_end s + 1) s)

-- a byte before a line goes in front of it
one_longer : (b : ℕ) (s : List ℕ) → (0 < length s → FirstLine s)
    → prepend_byte b (lines_of s) ≡ (b ∷ take (until_end s) s) ∷ lines_of (drop (until_end s + 1) s)
one_longer b [] rest = refl
one_longer b (c ∷ s) rest = ap (prepend_byte b) (rest (omega arith))

pub first-line : (s : List ℕ) → 0 < length s → FirstLine s
first-line [] some = absurd (omega arith)
first-line (b ∷ s) some = by_byte (eqb b 10) refl (first-line s)
  where
    by_byte : (t : Bool) → eqb b 10 ≡ t → (0 < length s → FirstLine s) → FirstLine (b ∷ s)
    by_byte true e rest = rw e
    by_byte false e rest = rw (e, add-one) (rw add-one at (one_longer b s rest))

-- ---- the lines from a place on
pub lines_past : (s : List ℕ) (at : ℕ) → length s ≤ at → lines_of (drop at s) ≡ []
lines_past s at past = ap lines_of (drop_of_length-le s {i = at} past)

pub line_at : (s : List ℕ) (at : ℕ) → at < length s
    → lines_of (drop at s)
    ≡ take (until_end (drop at s)) (drop at s) ∷ lines_of (drop (at + until_end (drop at s) + 1) s)
line_at s at inside =
    let rest = drop at s in
    let k = until_end rest in
    rw (add_assoc at k 1, ← drop-drop (k + 1) at s) (first-line rest (omega (arith, length-drop at s)))
