-- The entry in a slot, and nothing past the last one.
use Rattle.std.proofs.Common.{sym, ap, ◌∙◌, rules}
use Rattle.std.proofs.Math.Option.{some}
use Rattle.refusals.specs.Outcome.{answered}
use Rattle.tables.proofs.FirstSlots.{there, past}
use Rattle.tables.proofs.Laid.{laid}
use Rattle.tables.proofs.inner.slots.Slots.get.Goals as goal

pub returns-in_err-threshold : goal.returns-in_err-threshold
returns-in_err-threshold c =
    let k = laid c.self.view_is c.self.invariant in
    rw c.from_residual.ensures (ap answered (sym (rw k.list at (past _ _ _ k.all k.within c.args.place (search rules)))))

pub returns : goal.returns
returns c =
    let k = laid c.self.view_is c.self.invariant in
    ap answered (ap some (search rules) ∙ sym (rw k.list at (there _ _ _ k.all k.within c.args.place (search rules))))
