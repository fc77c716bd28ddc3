-- A line that begins with `#@` is what the reader of a field finds after these two bytes.
use mathlib.Core.Path.{◌≡◌, refl, sym, ap, ◌∙◌}
use mathlib.Core.Bool.{true, false}
use mathlib.Core.List.{List, [], ◌∷◌}
use Prim.Native.Nat.{ℕ, ◌+◌, ◌≤◌, ◌<◌}
use native.Mathlib.Decide.{dec_lt}
use native.Mathlib.Omega.{arith}
use lib.ListN.{length, get_or, drop, get_or-eq_default}
use lib.Seq.{drop-drop}
use Rattle.refusals.specs.Outcome.{Outcome, answered, refused}
use Rattle.texts.specs.Ends.{until_end, NoEndBetween}
use Rattle.texts.proofs.LineEnds.{passed}
use Rattle.published.specs.LeapSecondsList.{expires, malformed, begins, field_read, expires_at, line_read}
use Rattle.published.specs.Places.{first_line, in64_bits, opens, ends_field}
use Rattle.published.proofs.InLine.{line_on}
use Rattle.published.proofs.Fields.{is_read, both_in_line}

-- a byte that is not 0 is inside the text
pub byte_inside : (s : List ℕ) (i b : ℕ) → 0 < b → get_or s i 0 ≡ b → i < length s
byte_inside s i b some is = by_place (dec_lt i (length s))
  where
    by_place : Dec (i < length s) → i < length s
    by_place (yes inside) = inside
    by_place (no past) =
        let none = get_or-eq_default s 0 {n = i} (omega (arith, past)) in absurd (omega (arith, none, is, some))

not_read : (x : Outcome ℕ) → refused 12 ≡ in64_bits x → malformed ≡ expires_at x
not_read (answered n) e = cc
not_read (refused k) e = refl

-- a field that no comment may follow ends its line
pub line_ends : (l : List ℕ) → begins true (ends_field false) l ≡ true → until_end l ≡ 0
line_ends [] e = refl
line_ends (b ∷ l) e = rw e

pub line_goes_on : (l : List ℕ) → begins true (ends_field false) l ≡ false → 0 < until_end l
line_goes_on [] e = cc
line_goes_on (b ∷ l) e = rw e (omega arith)

module _ (s : List ℕ) (two : 2 ≤ length s) (hash : get_or s 0 0 ≡ 35) (sign : get_or s 1 0 ≡ 64) where
  abbrev line : List ℕ
  line = first_line s

  abbrev rest : List ℕ
  rest = drop 2 s

  not_end : (i b : ℕ) → get_or s i 0 ≡ b → 10 < b → get_or s i 0 ≡ 10 → ⊥
  not_end i b is h e = omega (arith, is, h, e)

  line_is : line ≡ 35 ∷ 64 ∷ first_line rest
  line_is =
      line_on s 0 (omega arith) (not_end 0 35 hash (omega arith))
      ∙ ap (λ (l : List ℕ). get_or s 0 0 ∷ l) (line_on s 1 (omega arith) (not_end 1 64 sign (omega arith)))
      ∙ rw (hash, sign)

  line_read_lem : line_read line ≡ expires_at (field_read (opens false) (first_line rest))
  line_read_lem = ap line_read line_is

  -- the two bytes are in one line with what follows them
  begun : NoEndBetween s 0 2
  begun =
      let first = passed s 0 (omega arith) (not_end 0 35 hash (omega arith)) in
      let second = passed s 1 (omega arith) (not_end 1 64 sign (omega arith)) in
      (omega (arith, first, second), two)

  pub no_expiry_lem : refused 12 ≡ in64_bits (field_read (opens false) (first_line rest)) → malformed ≡ line_read line
  no_expiry_lem e = not_read (field_read (opens false) (first_line rest)) e ∙ sym line_read_lem

  pub is_expiry_lem : (ntp : ℕ) → answered ntp ≡ in64_bits (field_read (opens false) (first_line rest)) → expires ntp ≡ line_read line
  is_expiry_lem ntp e = sym (line_read_lem ∙ ap expires_at (is_read (field_read (opens false) (first_line rest)) ntp e))

  pub ends_here : (used : ℕ) → NoEndBetween rest 0 used → begins true (ends_field false) (drop used rest) ≡ true
      → 2 + used ≡ until_end s
  ends_here used x ended =
      let whole = both_in_line s 2 used begun x in
      let none = line_ends (drop used rest) ended in
      omega (arith, whole.0, ap until_end (drop-drop used 2 s), none)
