-- Where the lines of a text begin, one after the other.
use mathlib.Core.Path.{◌≡◌, sym, ap, ◌∙◌}
use mathlib.Core.List.{List, []}
use Prim.Native.Nat.{ℕ, ◌+◌, ◌-◌, ◌≤◌, ◌<◌}
use native.Mathlib.Decide.{dec_le}
use native.Mathlib.Nat.{add-zero}
use native.Mathlib.Omega.{arith}
use lib.ListN.{length, get_or, take, drop, length-drop, drop_of_length-le}
use lib.Seq.{drop-drop, drop-nil, get_or-drop, take_all, take-take, length-take-le}
use Rattle.texts.specs.Lines.{lines_of}
use Rattle.texts.specs.Ends.{until_end}
use Rattle.texts.proofs.FirstLine.{until_within, line_at, lines_past}

module _ (s : List ℕ) (at : ℕ) where
  abbrev pub end : ℕ
  end = at + until_end (drop at s)

  abbrev line : List ℕ
  line = take (until_end (drop at s)) (drop at s)

  pub end-within : at ≤ length s → end ≤ length s
  end-within inside = omega (arith, until_within (drop at s), length-drop at s)

  -- the lines after the first one from a place on
  pub next_lines : drop 1 (lines_of (drop at s)) ≡ lines_of (drop (end + 1) s)
  next_lines = by_place (dec_le (length s) at)
    where
      by_place : Dec (length s ≤ at) → drop 1 (lines_of (drop at s)) ≡ lines_of (drop (end + 1) s)
      by_place (yes past) = rw (lines_past s at past, lines_past s (end + 1) (omega arith))
      by_place (no inside) = ap (drop 1) (line_at s at (omega (arith, inside)))

  -- and the first one
  pub first_is : get_or (lines_of (drop at s)) 0 [] ≡ line
  first_is = by_place (dec_le (length s) at)
    where
      by_place : Dec (length s ≤ at) → get_or (lines_of (drop at s)) 0 [] ≡ line
      by_place (yes past) = rw (drop_of_length-le s {i = at} past)
      by_place (no inside) = ap (λ (ls : List (List ℕ)). get_or ls 0 []) (line_at s at (omega (arith, inside)))

  -- where line j begins here, the line after it begins past the line end
  pub goes_on : (j k : ℕ) → lines_of (drop at s) ≡ drop j (lines_of s) → j + 1 ≡ k
      → lines_of (drop (end + 1) s) ≡ drop k (lines_of s)
  goes_on j k here e =
      sym next_lines ∙ ap (drop 1) here ∙ drop-drop 1 j (lines_of s) ∙ ap (λ (i : ℕ). drop i (lines_of s)) e

  -- and there is none where the text ends first
  pub ends : (j k : ℕ) → lines_of (drop at s) ≡ drop j (lines_of s) → length s ≤ end → j + 1 ≤ k
      → lines_of (drop end s) ≡ drop k (lines_of s)
  ends j k here past more =
      let none : drop (j + 1) (lines_of s) ≡ [] =
      sym (goes_on j (j + 1) here (omega arith)) ∙ lines_past s (end + 1) (omega arith) in
      let all : j + 1 + (k - (j + 1)) ≡ k = omega arith in
      lines_past s end past
      ∙ sym (ap (λ (i : ℕ). drop i (lines_of s)) (sym all) ∙ sym (drop-drop (k - (j + 1)) (j + 1) (lines_of s))
      ∙ ap (drop (k - (j + 1))) none ∙ drop-nil (k - (j + 1)))

  -- line j by its place
  pub line_is : (j : ℕ) → lines_of (drop at s) ≡ drop j (lines_of s) → get_or (lines_of s) j [] ≡ line
  line_is j here =
      ap (λ (i : ℕ). get_or (lines_of s) i []) (sym (add-zero j)) ∙ sym (get_or-drop j (lines_of s) 0 [])
      ∙ ap (λ (ls : List (List ℕ)). get_or ls 0 []) (sym here) ∙ first_is

-- the first 40 bytes of a line, by its length
pub whole-start : (n : ℕ) (l : List ℕ) → n ≤ length l → n < 40 → take n l ≡ take 40 (take n l)
whole-start n l there short = sym (take_all 40 (take n l) (omega (arith, length-take-le n l there)))

pub cut_start : (n : ℕ) (l : List ℕ) → 40 ≤ n → take 40 l ≡ take 40 (take n l)
cut_start n l long = sym (take-take 40 n l long)
