-- The expiry comes last.
use Rattle.std.proofs.Common.{◌∙◌}
use Rattle.images.proofs.InSlots.{expiry_is}
use Rattle.images.proofs.inner.image.Image.expiry.Goals as goal

pub returns : goal.returns
returns c = c.number_in_8.ensures ∙ expiry_is c.args.self.bytes.now
