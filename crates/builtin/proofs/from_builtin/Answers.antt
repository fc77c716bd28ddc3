-- The two constants are the list of the dates, by computation.
use Rattle.calendar.specs.Formula.{formula, era, yoe, doy, doe}
use Rattle.tables.specs.Slots.{paired}
use Rattle.builtin.specs.Builtin.{builtin, events, threshold_of, entries_from}
use Rattle.builtin.proofs.from_builtin.Goals as goal

pub returns : goal.returns
unfolding builtin events threshold_of entries_from formula era yoe doy doe paired
returns c = c.table_of.ensures
