-- There is a threshold for each entry.
use Rattle.std.proofs.Common.{sym}
use Rattle.tables.proofs.Laid.{laid}
use Rattle.tables.proofs.inner.slots.Slots.len.Goals as goal

pub returns : goal.returns
returns c = sym (laid c.self.view_is c.self.invariant).size
