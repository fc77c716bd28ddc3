-- `write_out`: a write takes more bytes, or none.
use Rattle.std.proofs.Common.{rules}
use Rattle.lines.proofs.Moved.{written_more, appends_kept}
use Rattle.lines.proofs.inner.streams.write_out.Goals as goal
use Rattle.lines.proofs.inner.streams.write_out.Goals.{in-Ok, in-Err+else-not-is_tried_again}

pub loop-preserved : goal.loop-preserved
loop-preserved g c =
    elim c.match-write.branch [
      | in-Ok w ↦ (search rules, rw w.at-is (written_more _ _ _ c.args.bytes.now c.loop.at w.in-Ok.n c.loop.invariant.1 w.in-Ok.ensures.bytes))
      | in-Err+else-not-is_tried_again w ↦ (search rules, rw w.at-is (appends_kept _ _ _ _ c.loop.invariant.1 w.in-Err.ensures.bytes))
    ]
