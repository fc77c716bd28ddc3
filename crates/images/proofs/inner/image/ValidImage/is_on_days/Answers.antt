-- The first slot is tested, then one pass tests each later one with the one before it.
use Rattle.std.proofs.Common.{◌≡◌, ℕ, List, true, pos, ap, rules, arith, w32, SFits}
use mir.Val.{of_z}
use mir.Facts.{sfits_lit}
use Rattle.counts.proofs.Signed.{bits_tell}
use Rattle.tables.specs.Slots.{valid_table}
use Rattle.tables.proofs.Checked.{checked}
use Rattle.images.specs.Image.{table_in}
use Rattle.images.proofs.InSlots.{table_sized}
use Rattle.images.proofs.DaysPassed as days
use Rattle.images.proofs.DaysPassed.{Known}
use Rattle.images.proofs.inner.image.ValidImage.is_on_days.Goals as goal

known : (b : List ℕ) {n : ℕ} → n ≡ (table_in b).len → valid_table (table_in b) ≡ true
    → Known (table_in b).thresholds (table_in b).offsets n
known b e v =
    let s = table_sized b in
    let k = checked (table_in b) s.thresholds s.offsets v in
    record {
      few = omega (arith, e, k.few);
      in_thresholds = omega (arith, e, k.in_thresholds);
      in_offsets = omega (arith, e, k.in_offsets);
      is_valid = rw e k.is_valid;
    }

pub returns-then-before-ne0 : goal.returns-then-before-ne0
returns-then-before-ne0 c =
    rw c.len-n.ensures at
    (days.not_at_0 (known _ c.len-n.ensures c.args.self.valid) (omega (arith, c.if-n-eq0.false))
    c.threshold-before.ensures c.if-before-ne0.true)

pub returns-then-offset-ne-OFFSET_OF_NO_ENTRY : goal.returns-then-offset-ne-OFFSET_OF_NO_ENTRY
returns-then-offset-ne-OFFSET_OF_NO_ENTRY c =
    rw c.len-n.ensures at
    (days.not_19 (known _ c.len-n.ensures c.args.self.valid) (omega (arith, c.if-n-eq0.false))
    c.threshold-before.ensures c.if-before-ne0.false c.offset.ensures
    (λ e. c.if-offset-ne-OFFSET_OF_NO_ENTRY.true (ap (of_z w32) e)))

pub loop-i-init : goal.loop-i-init
loop-i-init c =
    let fits : SFits w32 (pos 19) = sfits_lit tt in
    days.begins (known _ c.len-n.ensures c.args.self.valid) (omega (arith, c.if-n-eq0.false))
    c.threshold-before.ensures c.if-before-ne0.false c.offset.ensures
    (bits_tell (search rules) fits c.if-offset-ne-OFFSET_OF_NO_ENTRY.false)

pub returns-then-not-a_day_on : goal.returns-then-not-a_day_on
returns-then-not-a_day_on c =
    rw c.len-n.ensures at
    (days.not_apart c.loop-i.invariant c.loop-i-test.true c.threshold-next.ensures c.a_day_on.ensures
    c.if-not-a_day_on.true)

pub returns-then-next-lead-ne0 : goal.returns-then-next-lead-ne0
returns-then-next-lead-ne0 c =
    rw c.len-n.ensures at
    (days.not_on_a_day c.loop-i.invariant c.loop-i-test.true c.threshold-next.ensures c.a_day_on.ensures
    c.if-not-a_day_on.false c.if-next-lead-ne0.true)

pub loop-i-preserved : goal.loop-i-preserved
loop-i-preserved c =
    days.further c.loop-i.invariant c.loop-i-test.true c.threshold-next.ensures c.a_day_on.ensures
    c.if-not-a_day_on.false c.if-next-lead-ne0.false

pub returns : goal.returns
returns c = rw c.len-n.ensures at (days.passed c.loop-i.invariant c.loop-i-test.false)
