-- The search counts the thresholds at or below the reading, and the last of their entries is in force.
use Rattle.std.proofs.Common.{◌≡◌, ℕ, List, true, ◌∙◌}
use Rattle.tables.specs.Slots.{valid_table}
use Rattle.tables.proofs.Checked.{Checked, checked}
use Rattle.tables.proofs.InForce.{rises}
use Rattle.images.specs.Image.{table_in}
use Rattle.images.proofs.InSlots.{table_sized}
use Rattle.images.proofs.Judged.{told_is}
use Rattle.images.proofs.inner.image.ValidImage.look_up.Goals as goal

known : (b : List ℕ) → valid_table (table_in b) ≡ true → Checked (table_in b)
known b v = let s = table_sized b in checked _ s.thresholds s.offsets v

pub count_at_or_below-requires-clause-rises : goal.count_at_or_below-requires-clause-rises
count_at_or_below-requires-clause-rises c =
    let k = known _ c.args.self.valid in
    rw c.len-n.ensures (rises _ _ _ k.in_thresholds k.in_offsets k.is_valid)

pub returns : goal.returns
returns c =
    let k = known _ c.args.self.valid in
    c.told.ensures
    ∙ rw c.len-n.ensures
    (told_is _ _ _ k.in_thresholds k.in_offsets _ c.count_at_or_below.result
    (rw c.len-n.ensures at c.count_at_or_below.ensures) c.place_in_force-place.ensures)
