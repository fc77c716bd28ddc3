-- A turn leaves one slot fewer to be written.
use Rattle.std.proofs.Common.{ℕ, List, get_or, pos, sym, ap, ◌∙◌, rules, arith, w32, SFits, of_z}
use Rattle.std.proofs.lemmas.List.Edits.{sets}
use mir.Facts.{to_z-of_z}
use Rattle.tables.specs.declared.LeapTable.{LeapTable}
use Rattle.tables.proofs.Extensions.{Sized}
use Rattle.images.proofs.Whole.{last, length_written, slot-written, all_slots_written}
use Rattle.images.proofs.inner.put_table.Goals as goal

-- the expiry written over bytes
abbrev then_expiry : LeapTable → List ℕ → List ℕ
then_expiry t b = sets b 776 (last t)

pub loop-i-init : goal.loop-i-init
loop-i-init c =
    let sizes : Sized c.args.table = search rules in
    (search rules, search rules, length_written sizes c.args.image.now c.requires c.put_number.ensures)

pub loop-i-preserved : goal.loop-i-preserved
loop-i-preserved c =
    let s = c.loop-i in
    let sizes : Sized c.args.table = search rules in
    let fits : SFits w32 (get_or c.args.table.offsets s.i (pos 0)) = search rules in
    let bits_are = c.complement-bits.ensures ∙ ap (of_z w32) (to_z-of_z {w = w32} fits) in
    let written = slot-written sizes s.image s.i c.loop-i-test.true c.put_number-in-loop-i.ensures bits_are
    c.put_number-in-loop-i-2.ensures in
    (search rules, search rules, ap (then_expiry c.args.table) written ∙ s.invariant.2)

pub returns : goal.returns
returns c =
    let s = c.loop-i in
    let sizes : Sized c.args.table = search rules in
    c.put_number-2.ensures
    ∙ ap (then_expiry c.args.table) (sym (all_slots_written sizes s.image s.i (omega (arith, s.invariant.0))))
    ∙ s.invariant.2
