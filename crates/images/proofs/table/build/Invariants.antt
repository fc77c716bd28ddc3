-- The slots are filled from the front, a threshold and an offset at a turn.
use Rattle.std.proofs.Common.{to_z, w32}
use Rattle.images.proofs.Fields.{Kept, itself}
use Rattle.images.proofs.table.build.Given as goal

abbrev pub invariant-loop-i : goal.invariant-loop-i
invariant-loop-i l =
    Kept itself 8 12 0 l.list.bytes.now l.thresholds l.i × Kept (to_z w32) 4 12 8 l.list.bytes.now l.offsets l.i
