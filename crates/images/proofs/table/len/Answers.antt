-- The length of the table's list.
use Rattle.std.proofs.Common.{sym, ◌∙◌}
use Rattle.tables.proofs.FirstSlots.{slots_length}
use Rattle.images.proofs.Held.{valid_image, answers}
use Rattle.images.proofs.table.len.Goals as goal

pub returns : goal.returns
returns c =
    let t = c.in_ok-of in
    let k = valid_image _ t.field-0.image.size t.field-0.valid in
    rw (← t.ensures)
    (answers k (c.len.ensures ∙ sym (slots_length _ _ _ k.table.in_thresholds k.table.in_offsets)))
