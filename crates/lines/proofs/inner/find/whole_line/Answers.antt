-- `whole_line`: a part of the block, or what `keep` has stored.
use native.Mathlib.Nat.{sub-zero}
use lib.Dec.{lit≤}
use lib.Seq.{take-take}
use Rattle.lines.specs.Pieces.{line_up_to}
use Rattle.lines.proofs.inner.find.whole_line.Goals as goal

pub returns : goal.returns
returns c =
    let a = c.args in
    let l = line_up_to a.line.now a.used a.block.now a.at a.end in
    rw (sub-zero c.keep-n.result, c.keep-n.ensures.0) (take-take 128 128 l (lit≤ tt))
