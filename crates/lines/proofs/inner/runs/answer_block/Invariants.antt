-- `answer_block`. The invariant: the lines before `at` are answered.
use Rattle.std.proofs.Common.{◌-◌, length, take}
use Rattle.lines.proofs.Blocks.{AtLine}
use Rattle.lines.proofs.inner.runs.answer_block.Given as goal

abbrev pub invariant-loop-end : goal.invariant-loop-end
invariant-loop-end g l =
    AtLine 31 g.A.Answering.answer_to g.met.A.Answering.answers_lines (take l.fn.used l.fn.line) l.block l.fn.out l.line l.out l.held l.made l.at l.end

abbrev pub decreases-loop-end : goal.decreases-loop-end
decreases-loop-end g l = length l.block - l.at
