-- `run_since` keeps to its buffers: the line fits where it is written.
use Rattle.std.proofs.Common.{arith}
use Rattle.leaplist.proofs.Lengths.{made_fits}
use Rattle.leaplist.proofs.SinceLines.{since_short}
use Rattle.leaplist.proofs.run_since.Goals as goal

pub slice_bounds-write_out-end : goal.slice_bounds-write_out-end
slice_bounds-write_out-end c =
    omega (arith, made_fits 106 _ c.args.out.now _ c.since-made.result (since_short _ _) c.since-made.ensures)
