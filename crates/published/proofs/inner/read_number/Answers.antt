-- A digit is read while so few are read that one more fits; at any other byte, or at the end of the text, the number ends.
use Rattle.std.proofs.Common.{◌≡◌, get_or, sym, arith}
use Rattle.words.proofs.WayBack.{digit_bounds}
use Rattle.published.proofs.Digits.{ReadTo, room, found, found_ends, one_read}
use Rattle.published.proofs.inner.read_number.Goals as goal

pub returns-then-not-is_ascii_digit-clause-is : goal.returns-then-not-is_ascii_digit-clause-is
returns-then-not-is_ascii_digit-clause-is c =
    rw c.then_some.ensures (found c.loop-i.invariant (λ inside. sym c.if-not-is_ascii_digit.ensures.value) (omega arith))

pub returns-then-not-is_ascii_digit-clause-ends : goal.returns-then-not-is_ascii_digit-clause-ends
returns-then-not-is_ascii_digit-clause-ends c =
    rw c.then_some.ensures (found_ends c.loop-i.invariant (λ inside. sym c.if-not-is_ascii_digit.ensures.value))

-- so few digits leave room for one more
pub overflow_mul-value : goal.overflow_mul-value
overflow_mul-value c = omega (arith, room c.loop-i.invariant (omega arith))

pub overflow_add-value : goal.overflow_add-value
overflow_add-value c =
    let high = (digit_bounds (get_or c.args.s.now c.loop-i.i 0) (sym c.if-not-is_ascii_digit.ensures.value)).1 in
    omega (arith, room c.loop-i.invariant (omega arith))

pub loop-i-preserved : goal.loop-i-preserved
loop-i-preserved c =
    rw c.digit.ensures
    (one_read c.loop-i.invariant (omega arith) (sym c.if-not-is_ascii_digit.ensures.value))

-- ---- the text ends, or 19 digits are read
pub returns-then-end-lt-SAFE_DIGITS-clause-is : goal.returns-then-end-lt-SAFE_DIGITS-clause-is
returns-then-end-lt-SAFE_DIGITS-clause-is c =
    let all : c.loop-i.i ≡ c.min-end.result = omega arith in
    let read : ReadTo c.args.s.now c.loop-i.value c.min-end.result = rw all at c.loop-i.invariant in
    rw c.then_some-then-end-lt-SAFE_DIGITS.ensures (found read (λ inside. absurd (omega arith)) (omega arith))

pub returns-then-end-lt-SAFE_DIGITS-clause-ends : goal.returns-then-end-lt-SAFE_DIGITS-clause-ends
returns-then-end-lt-SAFE_DIGITS-clause-ends c =
    let all : c.loop-i.i ≡ c.min-end.result = omega arith in
    let read : ReadTo c.args.s.now c.loop-i.value c.min-end.result = rw all at c.loop-i.invariant in
    rw c.then_some-then-end-lt-SAFE_DIGITS.ensures (found_ends read (λ inside. absurd (omega arith)))

pub read_last_digit-requires-clause-digits : goal.read_last_digit-requires-clause-digits
read_last_digit-requires-clause-digits c =
    let all : c.loop-i.i ≡ 19 = omega arith in
    rw all at c.loop-i.invariant.digits
