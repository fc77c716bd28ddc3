-- The threshold, and the offset after it.
use Rattle.std.proofs.Common.{ap, ◌∙◌, ◌*◌, rules, w32, SFits, to_z}
use Rattle.std.proofs.Math.Seq.{drop-drop}
use mir.Facts.{to_z-of_z}
use Rattle.tables.specs.Entries.{entry}
use Rattle.images.proofs.inner.entries.entry_at.Goals as goal

pub returns : goal.returns
returns c =
    let b = c.args.entries.now in
    let fits : SFits w32 c.signed.result = search rules in
    let kept = to_z-of_z {w = w32} fits in
    let offset = kept ∙ c.signed.ensures
    ∙ ap (to_z w32) (rw (← drop-drop 8 (12 * c.args.i) b) at c.number_in_4-offset_bits.ensures.is) in
    record {
      is = c.new.ensures ∙ (λ i. entry (c.number_in_8.ensures i) (offset i));
      fits = rw (c.new.ensures, kept) fits;
    }
