-- `answer_block`, by the laws on any answer.
use Rattle.std.proofs.Common.{arith, rules}
use Rattle.lines.proofs.Blocks.{end_inside, ends, fits, next}
use Rattle.lines.proofs.inner.runs.answer_block.Goals as goal

pub overflow_add-made : goal.overflow_add-made
overflow_add-made g c =
    let text = c.whole_line-text.result.now in
    let room = fits c.loop-end.invariant c.if-out-made-lt-LONGEST_ANSWER.false text c.answer_line-made.ensures in
    omega (arith, room)

pub loop-end-preserved : goal.loop-end-preserved
loop-end-preserved g c =
    let text = c.whole_line-text.result.now in
    next c.loop-end.invariant c.if-out-made-lt-LONGEST_ANSWER.false text c.answer_line-made.ensures (omega arith)
    c.whole_line-text.ensures (search rules) c.next_end-end-in-loop-end.ensures

pub keep-requires-clause-end_in_bounds : goal.keep-requires-clause-end_in_bounds
keep-requires-clause-end_in_bounds g c = omega (arith, end_inside c.loop-end.invariant)

pub returns : goal.returns
returns g c = ends c.loop-end.invariant (omega arith) c.keep.ensures
