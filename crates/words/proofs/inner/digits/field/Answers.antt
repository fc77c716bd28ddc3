-- `field`: the next byte is a digit, since all of the field's are; and what was read before is below 10^18.
use native.Mathlib.Nat.{pow-le-pow_right}
use Rattle.std.proofs.Common.{◌≡◌, ◌+◌, ◌-◌, ◌≤◌, ◌^◌, arith, lit<, pow-suc, add-one}
use Rattle.words.proofs.Reading.{one_read}
use Rattle.words.proofs.WayBack.{next_is_digit}
use Rattle.words.proofs.inner.digits.field.Goals as goal

pub digit-requires : goal.digit-requires
digit-requires c =
    let w : c.args.at + c.args.width - c.args.at ≡ c.args.width = omega arith in
    (next_is_digit c.loop-b.invariant.0 c.loop-b-test.true (rw w c.requires.s_value)).0

pub overflow_mul-value : goal.overflow_mul-value
overflow_mul-value c =
    let few : c.loop-b.b-index ≤ 18 = omega arith in
    let small : 10 ^ c.loop-b.b-index ≤ 10 ^ 18 = pow-le-pow_right {n = 10} (lit< tt) few in
    omega (arith, small)

pub overflow_add-value : goal.overflow_add-value
overflow_add-value c =
    let w : c.args.at + c.args.width - c.args.at ≡ c.args.width = omega arith in
    let d = next_is_digit c.loop-b.invariant.0 c.loop-b-test.true (rw w c.requires.s_value) in
    let few : c.loop-b.b-index ≤ 18 = omega arith in
    let small : 10 ^ c.loop-b.b-index ≤ 10 ^ 18 = pow-le-pow_right {n = 10} (lit< tt) few in
    rw c.digit.ensures (omega (arith, small))

pub loop-b-preserved : goal.loop-b-preserved
loop-b-preserved c =
    let w : c.args.at + c.args.width - c.args.at ≡ c.args.width = omega arith in
    let d = next_is_digit c.loop-b.invariant.0 c.loop-b-test.true (rw w c.requires.s_value) in
    (rw c.digit.ensures (one_read c.loop-b.invariant.0 c.loop-b-test.true d.0 d.1), rw add-one (omega (arith, pow-suc 10 c.loop-b.b-index)))
