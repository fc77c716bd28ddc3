-- No digit follows the first 19, or one does, or two.
use Rattle.std.proofs.Common.{◌≡◌, ℕ, ◌+◌, ◌-◌, ◌*◌, ◌^◌, ◌≤◌, List, length, get_or, take, true, sym, ap, ◌∙◌, arith}
use Rattle.std.proofs.lemmas.Grind.{common_steps}
use Rattle.words.specs.Decimal.{all_digits, value_of}
use Rattle.published.specs.Places.{number_found}
use Rattle.published.proofs.Digits.{ReadTo, digit_inside, fits, all_read, is_number, too_large, too_long, one_read}
use Rattle.published.proofs.inner.read_last_digit.Goals as goal

first_19 : (s : List ℕ) (value : ℕ) → 19 ≤ length s → all_digits (take 19 s) ≡ true → value ≡ value_of (take 19 s)
    → ReadTo s value 19
first_19 s value long digits said = record { digits = digits; says = said; within = long }

-- ---- 19 digits
pub returns-then-not-is_digit_at-clause-is : goal.returns-then-not-is_digit_at-clause-is
returns-then-not-is_digit_at-clause-is c =
    let read = first_19 c.args.s.now c.args.value c.requires.long c.requires.digits c.requires.said in
    is_number read (λ inside. sym c.if-not-is_digit_at.ensures) (omega arith) (omega arith) (fits read (omega arith))

pub returns-then-not-is_digit_at-clause-ends : goal.returns-then-not-is_digit_at-clause-ends
returns-then-not-is_digit_at-clause-ends c =
    let read = first_19 c.args.s.now c.args.value c.requires.long c.requires.digits c.requires.said in
    (sym (all_read read (λ inside. sym c.if-not-is_digit_at.ensures)), c.requires.long)

-- ---- 21 or more
pub returns-then-is_digit_at-clause-is : goal.returns-then-is_digit_at-clause-is
returns-then-is_digit_at-clause-is c =
    let s = c.args.s.now in
    let read = first_19 s c.args.value c.requires.long c.requires.digits c.requires.said in
    let first = sym c.if-not-is_digit_at.ensures in
    let second = sym c.if-is_digit_at.ensures in
    let more = one_read read (digit_inside s 19 first) first in
    too_long (one_read more (digit_inside s 20 second) second) (omega arith)

-- ---- 20
pub returns-in_err-checked_mul-clause-is : goal.returns-in_err-checked_mul-clause-is
returns-in_err-checked_mul-clause-is c =
    let s = c.args.s.now in
    let read = first_19 s c.args.value c.requires.long c.requires.digits c.requires.said in
    let first = sym c.if-not-is_digit_at.ensures in
    let more = one_read read (digit_inside s 19 first) first in
    let large : 2 ^ 64 ≤ c.args.value * 10 = grind (arith, common_steps) in
    ap number_found c.from_residual.ensures
    ∙ too_large more (λ inside. sym c.if-is_digit_at.ensures) (omega (arith, large))

pub returns-in_err-number-clause-is : goal.returns-in_err-number-clause-is
returns-in_err-number-clause-is c =
    let s = c.args.s.now in
    let read = first_19 s c.args.value c.requires.long c.requires.digits c.requires.said in
    let first = sym c.if-not-is_digit_at.ensures in
    let more = one_read read (digit_inside s 19 first) first in
    let large : 2 ^ 64 ≤ c.args.value * 10 + (get_or s 19 0 - 48) = grind (arith, common_steps) in
    ap number_found c.from_residual-in_err-number.ensures
    ∙ too_large more (λ inside. sym c.if-is_digit_at.ensures) large

pub returns-clause-is : goal.returns-clause-is
returns-clause-is c =
    let s = c.args.s.now in
    let read = first_19 s c.args.value c.requires.long c.requires.digits c.requires.said in
    let first = sym c.if-not-is_digit_at.ensures in
    let number : c.in_ok-number.number ≡ c.args.value * 10 + (get_or s 19 0 - 48) = grind (arith, common_steps) in
    let more = one_read read (digit_inside s 19 first) first in
    rw number
    (is_number more (λ inside. sym c.if-is_digit_at.ensures) (omega arith) (omega arith) (omega (arith, number)))

pub returns-clause-ends : goal.returns-clause-ends
returns-clause-ends c =
    let s = c.args.s.now in
    let read = first_19 s c.args.value c.requires.long c.requires.digits c.requires.said in
    let first = sym c.if-not-is_digit_at.ensures in
    let more = one_read read (digit_inside s 19 first) first in
    (sym (all_read more (λ inside. sym c.if-is_digit_at.ensures)), more.within)
