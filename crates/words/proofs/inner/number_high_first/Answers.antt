-- `number_high_first`: a byte more, after those passed.
use Rattle.std.proofs.Common.{sym, ◌∙◌, refl, arith, rules}
use Rattle.words.specs.Words.{number_in}
use Rattle.words.proofs.Bytes.{next_high, byte_above, room_for_byte}
use Rattle.words.proofs.inner.number_high_first.Goals as goal

pub loop-b-init : goal.loop-b-init
unfolding number_in
loop-b-init c = (refl, omega arith)

pub overflow_mul-n : goal.overflow_mul-n
overflow_mul-n c = omega (arith, room_for_byte _ _ c.loop-b.invariant.1 (omega arith))

pub loop-b-preserved : goal.loop-b-preserved
loop-b-preserved c = (
  sym (next_high _ c.loop-b.b-index c.loop-b-test.true ∙ rw (← c.loop-b.invariant.0)),
  byte_above c.loop-b.n _ c.loop-b.b-index _ c.loop-b.invariant.1 (search rules) (omega arith),
)
