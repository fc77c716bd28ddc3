-- `put_ones`. The invariant: the digits from `left` on are written, and `rest` is the number without them.
use Rattle.words.proofs.Writing.{Written}
use Rattle.words.proofs.inner.digits.put_ones.Given as goal

abbrev pub invariant-loop-left : goal.invariant-loop-left
invariant-loop-left l = Written l.fn.out l.at l.width l.n l.out l.left l.rest
