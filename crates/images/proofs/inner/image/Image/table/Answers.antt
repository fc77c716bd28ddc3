-- The four parts of an image.
use Rattle.std.proofs.Common.{sym, ◌∙◌, arith, pos}
use Rattle.std.proofs.lemmas.List.{ext_get_or}
use Rattle.images.specs.Image.{table_in}
use Rattle.images.proofs.InSlots.{table_sized}
use Rattle.images.proofs.Whole.{table_of_parts}
use Rattle.images.proofs.inner.image.Image.table.Goals as goal

pub returns : goal.returns
unfolding table_in
returns c =
    let s = table_sized c.args.self.bytes.now in
    let kept = c.loop-i.invariant in
    let ts = ext_get_or 0 c.loop-i.thresholds _ (kept.threshold_count ∙ sym s.thresholds)
    (λ k l. kept.thresholds_kept k (omega (arith, l, kept.threshold_count))) in
    let zs = ext_get_or (pos 0) c.loop-i.offsets _ (kept.offset_count ∙ sym s.offsets)
    (λ k l. kept.offsets_kept k (omega (arith, l, kept.offset_count))) in
    λ i. table_of_parts (ts i) (zs i) (c.len.ensures i) (c.expiry.ensures i)
