-- The line begins with the sign of a comment, so it passes unless it ends in a return.
use Rattle.std.proofs.Common.{sym, ap, ◌∙◌, arith}
use lib.Seq.{length-take-le}
use Rattle.texts.proofs.FirstLine.{until_within}
use Rattle.published.specs.LeapSecondsList.{ends_in_return}
use Rattle.published.proofs.LineKinds.{line_to, comment_passes, comment_returns}
use Rattle.published.proofs.inner.read_comment.Goals as goal

pub slice_bounds-ends_in_return-end : goal.slice_bounds-ends_in_return-end
slice_bounds-ends_in_return-end c =
    let s = c.args.s.now in
    sym (length-take-le c.next_end-end.result s (omega (arith, c.next_end-end.ensures, until_within s)))

pub returns-then-ends_in_return-clause-is : goal.returns-then-ends_in_return-clause-is
returns-then-ends_in_return-clause-is c =
    let s = c.args.s.now in
    let is = sym (ap ends_in_return (line_to s c.next_end-end.result (omega (arith, c.next_end-end.ensures)))) in
    comment_returns s c.requires.some c.requires.hash c.requires.other (is ∙ sym c.if-ends_in_return.ensures)

pub returns-else-ends_in_return-clause-is : goal.returns-else-ends_in_return-clause-is
returns-else-ends_in_return-clause-is c =
    let s = c.args.s.now in
    let is = sym (ap ends_in_return (line_to s c.next_end-end.result (omega (arith, c.next_end-end.ensures)))) in
    comment_passes s c.requires.some c.requires.hash c.requires.other (is ∙ sym c.if-ends_in_return.ensures)
