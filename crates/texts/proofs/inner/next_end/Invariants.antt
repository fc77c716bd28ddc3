-- `next_end`. The invariant: no byte from `at` to `i` ends a line.
use Rattle.texts.specs.Ends.{NoEndBetween}
use Rattle.texts.proofs.inner.next_end.Given as goal

abbrev pub invariant-loop-i : goal.invariant-loop-i
invariant-loop-i l = NoEndBetween l.s l.at l.i
