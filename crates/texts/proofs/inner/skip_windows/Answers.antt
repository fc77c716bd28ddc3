-- `skip_windows`: a window without an end is passed over.
use Rattle.std.proofs.Common.{◌≡◌, ◌+◌, ◌-◌, take, drop, sym, ◌∙◌, length-drop, length-take, arith}
use Rattle.std.proofs.lemmas.List.{take-append-drop}
use Rattle.texts.proofs.LineEnds.{window_passed}
use Rattle.texts.proofs.inner.skip_windows.Goals as goal

pub loop-i-preserved : goal.loop-i-preserved
loop-i-preserved c =
    let s = c.args.s.now in
    let i = c.loop-i.i in
    let w : i + 16 - i ≡ 16 = omega arith in
    let free = rw w at (sym c.has_no_end.ensures ∙ c.if-has_no_end.true) in
    window_passed s (take 16 (drop i s)) (drop 16 (drop i s)) c.args.at i (sym (take-append-drop 16 (drop i s))) (omega (arith, length-take 16 (drop i s), length-drop i s)) c.loop-i.invariant free
