-- `put_entries`: the line of one slot more.
use Rattle.std.proofs.Common.{◌≡◌, ◌+◌, [], ◌∷◌, ◌++◌, length, get_or, refl, ap, ◌∙◌, add-one, arith, rules}
use lib.IntN.{pos}
use mir.Syntax.{w32}
use mir.Val.{SFits}
use mir.Facts.{to_z-of_z}
use Rattle.tables.specs.Slots.{slots, slot_at}
use Rattle.tables.proofs.FirstSlots.{slots_length, one_more}
use Rattle.leaplist.specs.Report.{entry_line, entry_lines}
use Rattle.leaplist.proofs.Lengths.{lines_short, one_line_more}
use Rattle.leaplist.proofs.OneAfterOther.{then_puts}
use Rattle.leaplist.proofs.inner.put.put_entries.Goals as goal

pub loop-i-init : goal.loop-i-init
unfolding entry_lines
loop-i-init c = ((refl, refl), omega arith, refl)

pub put_entry-end-requires : goal.put_entry-end-requires
put_entry-end-requires c =
    let a = c.args in
    let es = slots a.thresholds.now a.offsets.now c.loop-i.i in
    let few : length es ≡ c.loop-i.i = slots_length a.thresholds.now a.offsets.now c.loop-i.i (omega arith) (omega arith) in
    omega (arith, lines_short es, few)

pub loop-i-preserved : goal.loop-i-preserved
loop-i-preserved c =
    let a = c.args in
    let i = c.loop-i.i in
    let ts = a.thresholds.now in
    let ns = a.offsets.now in
    let e = slot_at ts ns i in
    let more : slots ts ns (i + 1) ≡ slots ts ns i ++ (e ∷ []) =
    rw add-one (one_more ts ns i (omega arith) (omega arith)) in
    let fits : SFits w32 (get_or ns i (pos 0)) = search rules in
    let lines = ap entry_lines more ∙ one_line_more (slots ts ns i) e in
    let line = rw (to_z-of_z fits) at c.put_entry-end.ensures in
    let written = then_puts a.out.now 0 (entry_lines (slots ts ns i)) (entry_line e) c.loop-i.invariant.0 line in
    (rw lines written, omega arith, c.put_entry-end.auto.out ∙ c.loop-i.invariant.2)
