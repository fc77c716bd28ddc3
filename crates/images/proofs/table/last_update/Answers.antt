-- The last threshold, where there is more than the first entry.
use Rattle.std.proofs.Common.{sym, ap, ◌∙◌, arith}
use Rattle.std.proofs.Math.Option.{some}
use Rattle.tables.proofs.Joining.{update_slot, no_update_slot}
use Rattle.images.proofs.Held.{valid_image, answers}
use Rattle.images.proofs.table.last_update.Goals as goal

pub returns-then-n-gt1 : goal.returns-then-n-gt1
returns-then-n-gt1 c =
    let t = c.in_ok-table in
    let k = valid_image _ t.field-0.image.size t.field-0.valid in
    rw (← t.ensures)
    (answers k
    (ap some (rw c.len-n.ensures at c.threshold.ensures)
    ∙ sym (update_slot _ _ _ k.table.in_thresholds k.table.in_offsets (omega (arith, c.len-n.ensures, c.if-n-gt1.true)))))

pub returns-else-n-gt1 : goal.returns-else-n-gt1
returns-else-n-gt1 c =
    let t = c.in_ok-table in
    let k = valid_image _ t.field-0.image.size t.field-0.valid in
    rw (← t.ensures)
    (answers k
    (sym
    (no_update_slot _ _ _ k.table.in_thresholds k.table.in_offsets (omega (arith, c.len-n.ensures, c.if-n-gt1.false)))))
