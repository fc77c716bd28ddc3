-- The offset of the last entry.
use Rattle.std.proofs.Common.{sym, ◌∙◌, rules, arith, w32}
use mir.Facts.{to_z-of_z}
use Rattle.tables.proofs.Joining.{current_slot, none_current}
use Rattle.images.proofs.Held.{valid_image, answers}
use Rattle.images.proofs.table.current_tai_minus_utc.Goals as goal

pub returns-then-n-eq0 : goal.returns-then-n-eq0
returns-then-n-eq0 c =
    let t = c.in_ok-table in
    let k = valid_image _ t.field-0.image.size t.field-0.valid in
    rw (← t.ensures)
    (answers k (rw (sym c.len-n.ensures ∙ c.if-n-eq0.true) (sym none_current)))

pub returns-else-n-eq0 : goal.returns-else-n-eq0
returns-else-n-eq0 c =
    let t = c.in_ok-table in
    let k = valid_image _ t.field-0.image.size t.field-0.valid in
    rw (← t.ensures)
    (answers k
    (to_z-of_z {w = w32} (search rules) ∙ (rw c.len-n.ensures at c.offset.ensures)
    ∙ sym (current_slot _ _ _ k.table.in_thresholds k.table.in_offsets (omega (arith, c.len-n.ensures, c.if-n-eq0.false)))))
