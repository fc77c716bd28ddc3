-- `put_last`: each turn writes four digits more, before those that are written.
use Rattle.std.proofs.Common.{ap, ◌∙◌, arith}
use Rattle.std.proofs.lemmas.List.Edits.{sets}
use Rattle.words.proofs.Writing.{of_remainder, some_written, all-written}
use Rattle.words.proofs.inner.digits.put_last.Goals as goal

pub loop-left-preserved : goal.loop-left-preserved
loop-left-preserved c =
    let s = c.loop-left in
    rw (c.put_four.ensures ∙ ap (sets s.out _) (of_remainder 4 s.rest)) (some_written s.invariant 4 (omega arith))

pub returns : goal.returns
returns c = c.put_ones.ensures ∙ all-written c.loop-left.invariant
