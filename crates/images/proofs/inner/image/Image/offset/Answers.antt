-- Offsets follow the thresholds, as two's complements.
use Rattle.std.proofs.Common.{ap, ◌∙◌, to_z, w32, rules}
use mir.Facts.{to_z-of_z}
use Rattle.images.proofs.InSlots.{offset_is}
use Rattle.images.proofs.inner.image.Image.offset.Goals as goal

pub returns : goal.returns
returns c =
    to_z-of_z {w = w32} (search rules) ∙ c.signed.ensures ∙ ap (to_z w32) c.number_in_4.ensures.is
    ∙ offset_is c.args.self.bytes.now c.args.i c.requires
