-- The entry at a place, and nothing past the last one.
use Rattle.std.proofs.Common.{sym, ap, ◌∙◌, arith}
use Rattle.std.proofs.Math.Option.{some}
use Rattle.tables.proofs.FirstSlots.{there, past}
use Rattle.images.proofs.Held.{valid_image, answers}
use Rattle.images.proofs.table.entry_at.Goals as goal

pub returns-then-place-len : goal.returns-then-place-len
returns-then-place-len c =
    let t = c.in_ok-table in
    let k = valid_image _ t.field-0.image.size t.field-0.valid in
    rw (← t.ensures)
    (answers k
    (ap some c.entry.ensures
    ∙ sym (there _ _ _ k.table.in_thresholds k.table.in_offsets _ (omega (arith, c.len.ensures, c.if-place-len.true)))))

pub returns-else-place-len : goal.returns-else-place-len
returns-else-place-len c =
    let t = c.in_ok-table in
    let k = valid_image _ t.field-0.image.size t.field-0.valid in
    rw (← t.ensures)
    (answers k
    (sym (past _ _ _ k.table.in_thresholds k.table.in_offsets _ (omega (arith, c.len.ensures, c.if-place-len.false)))))
