-- The length stands first.
use Rattle.std.proofs.Common.{◌∙◌}
use Rattle.images.proofs.InSlots.{length_is}
use Rattle.images.proofs.inner.image.Image.len.Goals as goal

pub returns : goal.returns
returns c = c.number_in_8.ensures ∙ length_is c.args.self.bytes.now
