-- The digits before `i` are read.
use Rattle.published.proofs.Digits.{ReadTo}
use Rattle.published.proofs.inner.read_number.Given as goal

abbrev pub invariant-loop-i : goal.invariant-loop-i
invariant-loop-i l = ReadTo l.s l.value l.i
