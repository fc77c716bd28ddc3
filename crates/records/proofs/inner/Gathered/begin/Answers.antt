-- No entry is kept yet, and the arrays are those of the table with no entry.
use Rattle.records.proofs.Kept.{holds-begin}
use Rattle.records.proofs.inner.Gathered.begin.Goals as goal

pub returns-clause-holds : goal.returns-clause-holds
returns-clause-holds c = holds-begin c.begin.result c.begin.ensures
