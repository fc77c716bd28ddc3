-- The first `len` of the thresholds and of the offsets.
use Rattle.std.proofs.Common.{rules}
use Rattle.tables.proofs.Laid.{cut, cut_fits}
use Rattle.tables.proofs.inner.slots.Slots.of_valid.Goals as goal

pub invariant_of-result : goal.invariant_of-result
invariant_of-result c = cut_fits c.args.table.now.len _ _ (search rules) (search rules) c.requires

pub returns : goal.returns
returns c = cut c.args.table.now.len _ _
