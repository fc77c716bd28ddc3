-- `put_ones`: each turn writes one digit more, before those that are written.
use Rattle.words.proofs.Writing.{some_written}
use Rattle.words.proofs.inner.digits.put_ones.Goals as goal

pub loop-left-preserved : goal.loop-left-preserved
loop-left-preserved c = some_written c.loop-left.invariant 1 c.loop-left-test.true
