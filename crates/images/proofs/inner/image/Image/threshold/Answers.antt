-- Thresholds follow the length.
use Rattle.std.proofs.Common.{◌∙◌}
use Rattle.images.proofs.InSlots.{threshold_is}
use Rattle.images.proofs.inner.image.Image.threshold.Goals as goal

pub returns : goal.returns
returns c = c.number_in_8.ensures ∙ threshold_is c.args.self.bytes.now c.args.i c.requires
