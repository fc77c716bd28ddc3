-- `read_count`: a count that would not fit is refused.
use Rattle.std.proofs.Common.{◌≡◌, ◌+◌, ◌-◌, ◌≤◌, ◌<◌, ◌*◌, ◌^◌, length, get_or, arith}
use Rattle.std.proofs.lemmas.Grind.{common_steps}
use Rattle.refusals.specs.Outcome.{refused}
use Rattle.words.specs.Decimal.{count_read}
use Rattle.words.proofs.Reading.{too_large, all_read}
use Rattle.words.proofs.digits.read_count.Goals as goal

pub returns-in_err-tens : goal.returns-in_err-tens
returns-in_err-tens c =
    let large : 2 ^ 64 ≤ c.loop-b.value * 10 = grind (arith, common_steps) in
    let refuses : refused 10 ≡ count_read c.args.s.now
    = too_large c.loop-b.invariant.0 c.loop-b-test.true (omega arith) in
    grind (arith, common_steps)

pub returns-in_err-value : goal.returns-in_err-value
returns-in_err-value c =
    let large : 2 ^ 64 ≤ c.loop-b.value * 10 + (get_or c.args.s.now c.loop-b.b-index 0 - 48) = grind (arith, common_steps) in
    let refuses : refused 10 ≡ count_read c.args.s.now
    = too_large c.loop-b.invariant.0 c.loop-b-test.true (omega arith) in
    grind (arith, common_steps)

pub returns : goal.returns
returns c =
    let some : 0 < length c.args.s.now = grind (arith, common_steps) in
    all_read c.loop-b.invariant.0 some (omega arith) (omega arith) (omega arith)
