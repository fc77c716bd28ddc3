-- `counted_places`: a turn takes one digit off, and the last turn leaves one.
use Rattle.std.proofs.Common.{◌≡◌, ◌+◌, ◌-◌, sym, ◌∙◌, arith}
use Rattle.words.proofs.Writing.{last-place, next_place}
use Rattle.words.proofs.inner.digits.counted_places.Goals as goal

pub loop-rest-preserved : goal.loop-rest-preserved
loop-rest-preserved c =
    let s = c.loop-rest in
    let next = next_place (20 - s.more) s.rest s.invariant.1 c.loop-rest-test.true in
    let fewer : 20 - s.more - 1 ≡ 20 - (s.more + 1) = omega arith in
    (s.invariant.0 ∙ rw (next.0, fewer) (omega arith), rw fewer at next.1, omega (arith, next.2))

pub returns : goal.returns
returns c =
    let s = c.loop-rest in
    (sym (s.invariant.0 ∙ rw (last-place (20 - s.more) s.rest (omega arith) c.loop-rest-test.false)), omega arith)
