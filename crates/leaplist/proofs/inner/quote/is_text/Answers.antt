-- `is_text`: one byte more is looked at, and none is left at the end.
use Rattle.std.proofs.Common.{ℕ, ◌&&◌, List, sym, ap, ◌∙◌, add-one, drop-cons, drop_of_length-le, arith}
use mathlib.Core.Bool.{and-true, and_assoc}
use Rattle.leaplist.specs.Report.{all_text}
use Rattle.leaplist.proofs.inner.quote.is_text.Goals as goal

pub loop-i-preserved : goal.loop-i-preserved
unfolding all_text
loop-i-preserved c =
    let s = c.args.s.now in
    let i = c.loop-i.i in
    let opened = c.loop-i.invariant.0 ∙ ap (λ (l : List ℕ). c.loop-i.all && all_text l) (drop-cons s i 0 (omega arith)) in
    (rw (and_assoc, c.is_text_byte-all.ensures, add-one) opened, omega arith)

pub returns : goal.returns
unfolding all_text
returns c =
    let none = drop_of_length-le c.args.s.now {i = c.loop-i.i} (omega arith) in
    sym (c.loop-i.invariant.0 ∙ rw (none, and-true c.loop-i.all))
