-- `put_number`: a turn leaves one byte fewer to be written.
use Rattle.std.proofs.Common.{◌≡◌, ◌+◌, ◌-◌, ◌∙◌, length, length-take, length-drop, append-nil, arith}
use Rattle.std.proofs.lemmas.List.{take_all}
use Rattle.words.specs.Words.{bytes_of}
use Rattle.words.proofs.Bytes.{byte-written}
use Rattle.words.proofs.Stores.{part_put}
use Rattle.words.proofs.inner.put_number.Goals as goal

pub loop-b-preserved : goal.loop-b-preserved
loop-b-preserved c =
    let l : length c.loop-b.b-items ≡ c.args.width = c.loop-b.auto.b-items ∙ simp (length-take, length-drop) (omega arith) in
    byte-written c.loop-b.b-items c.args.width c.loop-b.b-index c.loop-b.rest (omega arith) (omega arith) ∙ c.loop-b.invariant

pub returns : goal.returns
unfolding bytes_of
returns c =
    let i = c.loop-b.b-index in
    let w : c.args.at + c.args.width - c.args.at ≡ c.args.width = omega arith in
    let l : length c.loop-b.b-items ≡ c.args.width = c.loop-b.auto.b-items ∙ simp (length-take, length-drop) (omega arith) in
    let none : c.args.width - i ≡ 0 = omega arith in
    let whole = rw (none, append-nil, take_all i c.loop-b.b-items (omega arith)) at c.loop-b.invariant in
    rw (w, ← whole) (part_put c.args.out.now c.loop-b.b-items c.args.at c.args.width l (omega arith))
