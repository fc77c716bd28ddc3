-- What is at or below the reading stands before `low`, and what is above it from `high` on.
use Rattle.std.proofs.Common.{◌-◌}
use Rattle.tables.proofs.Halving.{Halves}
use Rattle.images.specs.Image.{table_in}
use Rattle.images.proofs.inner.image.Image.count_at_or_below.Given as goal

abbrev pub invariant-loop-low : goal.invariant-loop-low
invariant-loop-low l = Halves (table_in l.self.bytes.now).thresholds l.n l.tai l.low l.high

abbrev pub decreases-loop-low : goal.decreases-loop-low
decreases-loop-low l = l.high - l.low
