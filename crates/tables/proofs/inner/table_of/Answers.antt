-- Zeros are written over from the front.
use Rattle.tables.proofs.Filled.{table_is}
use Rattle.tables.proofs.inner.table_of.Goals as goal

pub returns : goal.returns
returns c =
    rw (c.copy_from_slice.ensures.after, c.copy_from_slice-2.ensures.after)
    (table_is c.args.thresholds.now c.args.offsets.now c.requires.as_many)
