-- `read_all` is safe and ends: the block keeps its length.
use Rattle.std.proofs.Common.{◌≡◌, length}
use Rattle.replay.proofs.read_all.Given as goal

abbrev pub invariant-loop : goal.invariant-loop
invariant-loop l = length l.block ≡ length l.fn.block
