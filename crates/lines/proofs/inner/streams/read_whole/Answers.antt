-- `read_whole`: a read gives more bytes, or none.
use Rattle.std.proofs.Common.{rules}
use Rattle.std.proofs.KnownBytes.{Consumes-kept}
use Rattle.lines.proofs.Moved.{read_more, read_none}
use Rattle.lines.proofs.inner.streams.read_whole.Goals as goal
use Rattle.lines.proofs.inner.streams.read_whole.Goals.{in-Ok, in-Err+else-not-is_tried_again}

pub loop-preserved : goal.loop-preserved
loop-preserved g c =
    elim c.match-read.branch [
      | in-Ok w ↦ (
        search rules,
        search rules,
        rw w.at-is (read_more _ _ _ c.loop.block c.read.new.buf c.loop.at w.in-Ok.n (search rules) (search rules) c.loop.invariant.2 w.in-Ok.ensures.bytes.0),
      )
      | in-Err+else-not-is_tried_again w ↦ (
        search rules,
        search rules,
        rw (w.at-is, read_none c.loop.block c.read.new.buf c.loop.at (search rules)) (Consumes-kept _ _ _ _ c.loop.invariant.2 w.in-Err.ensures.bytes),
      )
    ]
