-- `run`. The invariant: no buffer changes its length, the place is one of the block, and what is written so far are the
-- answers to what is taken.
use Rattle.std.proofs.Common.{◌≡◌, length}
use Rattle.lines.specs.Places.{Within}
use Rattle.lines.proofs.Runs.{Going}
use Rattle.lines.proofs.inner.runs.run.Given as goal

abbrev pub invariant-loop : goal.invariant-loop
invariant-loop g l =
    (length l.line ≡ length l.fn.line) × (length l.block ≡ length l.fn.block) × Within (length l.block) l.place
    × Going g.A.Answering.answer_to (g.R.Read.remaining l.fn.input) (g.R.Read.remaining l.input) (g.W.Write.contents l.fn.output)
    (g.W.Write.contents l.output) l.line l.block l.place
