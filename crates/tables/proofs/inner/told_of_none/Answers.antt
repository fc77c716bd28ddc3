-- What the definition says of a list with no entry.
use Rattle.std.proofs.Common.{refl}
use Rattle.tables.specs.Entries.{lookup}
use Rattle.tables.proofs.inner.told_of_none.Goals as goal

pub returns : goal.returns
unfolding lookup
returns c = refl
