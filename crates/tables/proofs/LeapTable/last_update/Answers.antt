-- The threshold of the last entry, where there is more than the first one.
use Rattle.std.proofs.Common.{rules, of_calls, sym, ap}
use Rattle.refusals.specs.Outcome.{answered}
use Rattle.tables.proofs.Checked.{told}
use Rattle.tables.proofs.Joining.{no_update, update_told}
use Rattle.tables.proofs.LeapTable.last_update.Goals as goal

pub returns-then-len-le1 : goal.returns-then-len-le1
returns-then-len-le1 c =
    let k = told c.args.self c.in_ok-slots.ensures in
    rw k.0 (ap answered (sym (no_update _ (rw (c.len.ensures, k.1) at c.if-len-le1.true))))

pub returns : goal.returns
returns c =
    let k = told c.args.self c.in_ok-slots.ensures in
    rw k.0
    (update_told c.last.result _ (rw k.1 at c.last.ensures) (rw (c.len.ensures, k.1) at c.if-len-le1.false) c.map.result (search (rules, of_calls)))
