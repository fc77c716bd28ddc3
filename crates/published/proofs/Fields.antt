-- The reader of a field, step by step: blanks, the number, blanks, and what follows them.
use mathlib.Core.Path.{◌≡◌, refl, sym, ap, ◌∙◌}
use mathlib.Core.Bool.{Bool, true, false, cond, ◌&&◌, and-false}
use mathlib.Core.List.{List}
use Prim.Native.Nat.{ℕ, ◌+◌, ◌≤◌, ◌<◌, ◌^◌}
use native.Mathlib.Omega.{arith}
use borrow.Author.Tests.{lt-ltb, le-ltb}
use lib.ListN.{length, get_or, drop, length-drop, drop_of_length-le}
use lib.Seq.{drop-cons, drop-drop}
use Rattle.refusals.specs.Outcome.{Outcome, answered, refused}
use Rattle.words.specs.Decimal.{is_digit, count_read}
use Rattle.texts.specs.Ends.{until_end, NoEndBetween}
use Rattle.published.specs.LeapSecondsList.{take_while, drop_while, begins, is_blank, in31_bits, field_read}
use Rattle.published.specs.Places.{first_line, in64_bits, opens, ends_field}
use Rattle.published.proofs.Parts.{Passed}
use Rattle.published.proofs.InLine.{field-line}

-- what a text begins with, by the byte at a place of it
pub begins-at : (none : Bool) (test : ℕ → Bool) (s : List ℕ) (i : ℕ) → i < length s
    → begins none test (drop i s) ≡ test (get_or s i 0)
begins-at none test s i inside = rw (drop-cons s i 0 inside)

pub begins_nothing : (none : Bool) (test : ℕ → Bool) (s : List ℕ) (i : ℕ) → length s ≤ i
    → begins none test (drop i s) ≡ none
begins_nothing none test s i h = rw (drop_of_length-le s {i = i} h)

-- ---- numbers of 64 and of 31 bits
pub is_read : (x : Outcome ℕ) (n : ℕ) → answered n ≡ in64_bits x → x ≡ answered n
is_read (answered m) n e = sym e
is_read (refused k) n e = cc

pub none_in_31 : (x : Outcome ℕ) → refused 12 ≡ in64_bits x → refused 12 ≡ in31_bits x
none_in_31 (answered m) e = cc
none_in_31 (refused k) e = refl

module _ (x : Outcome ℕ) (n : ℕ) (is : answered n ≡ in64_bits x) where
  pub too_large : 2 ^ 31 ≤ n → refused 12 ≡ in31_bits x
  too_large h = rw (is_read x n is, le-ltb n (2 ^ 31) h)

  pub not_too_large : n < 2 ^ 31 → answered n ≡ in31_bits x
  not_too_large h = rw (is_read x n is, lt-ltb n (2 ^ 31) h)

-- ---- the steps
none-unless : (t : Bool) (x : Outcome ℕ) → refused 12 ≡ in64_bits x → refused 12 ≡ in64_bits (cond t x (refused 12))
none-unless true x e = e
none-unless false x e = refl

-- one step after the other in one line
pub in_one_line : (s : List ℕ) (a b c : ℕ) → NoEndBetween s a b → NoEndBetween s b c → NoEndBetween s a c
in_one_line s a b c x y = (x.0 ∙ y.0, y.1)

-- the same of a part of the text, from a place on
pub part_in_line : (s : List ℕ) (from used : ℕ) → from ≤ length s → NoEndBetween (drop from s) 0 used
    → NoEndBetween s from (from + used)
part_in_line s from used h x =
    let same = ap until_end (drop-drop used from s) in
    (omega (arith, x.0, same), omega (arith, x.1, length-drop from s, h))

-- a text, and then one from where it ends
pub both_in_line : (s : List ℕ) (from used : ℕ) → NoEndBetween s 0 from → NoEndBetween (drop from s) 0 used
    → NoEndBetween s 0 (from + used)
both_in_line s from used x y = in_one_line s 0 from (from + used) x (part_in_line s from used x.1 y)

module _ (comment : Bool) (s : List ℕ) where
  abbrev field : Outcome ℕ
  field = in64_bits (field_read (opens comment) (first_line s))

  pub no_blank : begins false is_blank s ≡ false → refused 12 ≡ field
  no_blank e = rw (field-line comment s, e)

  module _ (start : ℕ) (blanks : Passed is_blank s start) where
    abbrev read : Outcome ℕ
    read = count_read (take_while is_digit (drop start s))

    pub no_number : refused 12 ≡ in64_bits read → refused 12 ≡ field
    no_number e =
        let ended = begins true (ends_field comment) (drop_while is_blank (drop_while is_digit (drop start s))) in
        rw (field-line comment s, ← blanks.0) (none-unless (begins false is_blank s && ended) read e)

    module _ (n width : ℕ) (is : answered n ≡ in64_bits read) (digits : Passed is_digit (drop start s) width) (more : ℕ)
        (blanks-on : Passed is_blank (drop (start + width) s) more) where
      abbrev stop : ℕ
      stop = start + width + more

      after-digits : drop (start + width) s ≡ drop_while is_digit (drop_while is_blank s)
      after-digits = sym (drop-drop width start s) ∙ digits.0 ∙ ap (drop_while is_digit) blanks.0

      after-all : drop stop s ≡ drop_while is_blank (drop_while is_digit (drop_while is_blank s))
      after-all = sym (drop-drop more (start + width) s) ∙ blanks-on.0 ∙ ap (drop_while is_blank) after-digits

      pub ends : NoEndBetween s 0 stop
      ends =
          both_in_line s (start + width) more (both_in_line s start width blanks.1 digits.1) blanks-on.1

      pub not_ended : begins true (ends_field comment) (drop stop s) ≡ false → refused 12 ≡ field
      not_ended e = rw (field-line comment s, ← after-all, e, and-false)

      pub is_field : begins false is_blank s ≡ true → begins true (ends_field comment) (drop stop s) ≡ true
          → answered n ≡ field
      is_field b e = rw (field-line comment s, ← after-all, b, e, ← blanks.0) is
