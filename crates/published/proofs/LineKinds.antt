-- What a line is, by its first byte and by what its reader found.
use mathlib.Core.Path.{◌≡◌, refl, sym, ap, ◌∙◌}
use mathlib.Core.Bool.{Bool, true, false, cond}
use mathlib.Core.List.{List, []}
use Prim.Native.Nat.{ℕ, ◌+◌, ◌≤◌, ◌<◌}
use native.Mathlib.Omega.{arith}
use borrow.Author.Tests.{ne_eqb}
use lib.Dec.{eqb}
use lib.ListN.{length, get_or, take, drop, length-drop}
use Rattle.refusals.specs.Outcome.{Outcome, answered, refused}
use Rattle.words.specs.Decimal.{is_digit, count_read}
use Rattle.texts.specs.Ends.{until_end}
use Rattle.texts.proofs.LineEnds.{passed}
use Rattle.texts.proofs.FirstLine.{until_within}
use Rattle.published.specs.LeapSecondsList.{passes, holds, malformed, take_while, drop_while, begins, is_blank, is_hash}
use Rattle.published.specs.LeapSecondsList.{begins_expiry, ends_in_return, offset_read, line_with, record_at, line_read}
use Rattle.published.specs.Places.{first_line, in64_bits}
use Rattle.published.proofs.Parts.{Passed, first_here, stays_here}
use Rattle.published.proofs.InLine.{length_line, drop_line, take_line, begins-line, line_on, begins-byte, blanks-end}
use Rattle.published.proofs.Digits.{from_zero}
use Rattle.published.proofs.Fields.{begins-at, is_read}

-- ---- where a line ends
pub end-within : (s : List ℕ) (at : ℕ) → at ≤ length s → at + until_end (drop at s) ≤ length s
end-within s at h = omega (arith, until_within (drop at s), length-drop at s)

pub line_to : (s : List ℕ) (end : ℕ) → end ≡ until_end s → take end s ≡ first_line s
line_to s end e = ap (λ (k : ℕ). take k s) e

pub not_empty : (s : List ℕ) (at : ℕ) → at < length s → (get_or s at 0 ≡ 10 → ⊥) → 0 < until_end (drop at s)
not_empty s at inside other = omega (arith, passed s at inside other)

-- ---- what a line is
either_malformed : (t : Bool) → malformed ≡ cond t malformed malformed
either_malformed true = refl
either_malformed false = refl

no_number : (x y : Outcome ℕ) → refused 12 ≡ in64_bits x → line_with x y ≡ malformed
no_number (answered n) y e = cc
no_number (refused k) y e = refl

module _ (s : List ℕ) (inside : 0 < length s) where
  abbrev line : List ℕ
  line = first_line s

  begins_with : (test : ℕ → Bool) → test 10 ≡ false → begins false test line ≡ test (get_or s 0 0)
  begins_with test e = begins-line test e s ∙ begins-at false test s 0 inside

  -- a line that begins with another byte than `#` is no expiry
  no_expiry_lem : eqb (get_or s 0 0) 35 ≡ false → begins_expiry line ≡ false
  no_expiry_lem e = rw (begins_with is_hash refl, e)

  -- a comment
  module _ (hash : get_or s 0 0 ≡ 35) (other : eqb (get_or s 1 0) 64 ≡ false) where
    first : begins false is_hash line ≡ true
    first = begins_with is_hash refl ∙ rw hash

    no_sign : begins false (λ b. eqb b 64) (drop 1 line) ≡ false
    no_sign =
        ap (λ (l : List ℕ). begins false (λ b. eqb b 64) (drop 1 l)) (line_on s 0 inside (λ e. omega (arith, e, hash)))
        ∙ begins-line (λ b. eqb b 64) refl (drop 1 s)
        ∙ begins-byte (λ b. eqb b 64) refl s 1 ∙ other

    pub comment_passes : ends_in_return line ≡ false → passes ≡ line_read line
    comment_passes e = rw (e, first, no_sign)

    pub comment_returns : ends_in_return line ≡ true → malformed ≡ line_read line
    comment_returns e = rw (e, first, no_sign)

  -- blanks up to `end`
  module _ (other : eqb (get_or s 0 0) 35 ≡ false) (end : ℕ) (blanks : Passed is_blank s end) where
    no_hash : begins false is_hash line ≡ false
    no_hash = begins_with is_hash refl ∙ other

    left : drop_while is_blank line ≡ first_line (drop end s)
    left = drop_line is_blank refl s ∙ ap first_line (sym blanks.0)

    pub blanks_pass : until_end (drop end s) ≡ 0 → passes ≡ line_read line
    blanks_pass e =
        let none : drop_while is_blank line ≡ [] = left ∙ rw e in
        rw (blanks-end line (ap length none), no_hash, none)

    pub blanks_fail : is_digit (get_or s 0 0) ≡ false → 0 < until_end (drop end s) → malformed ≡ line_read line
    blanks_fail d h =
        let some : length (drop_while is_blank line) ≡ until_end (drop end s) = ap length left ∙ length_line (drop end s) in
        let none : take_while is_digit line ≡ [] = take_line is_digit refl s ∙ first_here is_digit s inside d in
        rw (no_hash, ne_eqb (length (drop_while is_blank line)) 0 (λ e. omega (arith, e, some, h)), none)
        (either_malformed (ends_in_return line))

  -- data
  module _ (digit : is_digit (get_or s 0 0) ≡ true) where
    not_byte : (b : ℕ) → b < 48 → get_or s 0 0 ≡ b → ⊥
    not_byte b h e = omega (arith, e, from_zero (get_or s 0 0) digit)

    not_blank : is_blank (get_or s 0 0) ≡ false
    not_blank =
        rw (ne_eqb (get_or s 0 0) 32 (not_byte 32 (omega arith)), ne_eqb (get_or s 0 0) 9 (not_byte 9 (omega arith)))

    no_blanks : length (drop_while is_blank line) ≡ until_end s
    no_blanks =
        ap length (drop_line is_blank refl s ∙ ap first_line (stays_here is_blank s inside not_blank))
        ∙ length_line s

    pub data_not_empty : 0 < until_end s
    data_not_empty = not_empty s 0 inside (not_byte 10 (omega arith))

    data_read : line_read line
        ≡ cond (ends_in_return line) malformed
        (line_with (count_read (take_while is_digit s)) (offset_read (first_line (drop_while is_digit s))))
    data_read =
        rw (
          begins_with is_hash refl,
          ne_eqb (get_or s 0 0) 35 (not_byte 35 (omega arith)),
          ne_eqb (length (drop_while is_blank line)) 0 (λ e. omega (arith, e, no_blanks, data_not_empty)),
          take_line is_digit refl s,
          drop_line is_digit refl s,
        )

    pub data_no_number : refused 12 ≡ in64_bits (count_read (take_while is_digit s)) → malformed ≡ line_read line
    data_no_number e =
        sym (data_read ∙ rw (no_number (count_read (take_while is_digit s)) _ e) (sym (either_malformed (ends_in_return line))))

    pub data_returns : ends_in_return line ≡ true → malformed ≡ line_read line
    data_returns e = rw (no_expiry_lem (ne_eqb (get_or s 0 0) 35 (not_byte 35 (omega arith))), e)

    module _ (ntp i : ℕ) (is : answered ntp ≡ in64_bits (count_read (take_while is_digit s))) (digits : Passed is_digit s i) where
      abbrev read : count_read (take_while is_digit s) ≡ answered ntp
      read = is_read (count_read (take_while is_digit s)) ntp is

      pub data_no_offset : refused 12 ≡ offset_read (first_line (drop i s)) → malformed ≡ line_read line
      data_no_offset e = sym (data_read ∙ rw (read, ← digits.0, ← e) (sym (either_malformed (ends_in_return line))))

      pub data_holds : (n : ℕ) → answered n ≡ offset_read (first_line (drop i s)) → ends_in_return line ≡ false
          → holds (record_at ntp n) ≡ line_read line
      data_holds n e f = sym (data_read ∙ rw (f, read, ← digits.0, ← e))
