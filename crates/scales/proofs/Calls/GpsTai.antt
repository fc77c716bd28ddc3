-- What GPS alone has: each call leaves one answer for each input.
use Rattle.refusals.proofs.OneAnswer.{OneAnswer, viewed}
use Rattle.scales.proofs.Tells.{gps_tells, tai_tells}
use Rattle.scales.proofs.gps.Gps

pub gps_to_tai : OneAnswer Gps.to_tai.Reads.Post
gps_to_tai κ a x y e f p q = viewed tai_tells x y p q

pub gps_from_tai : OneAnswer Gps.from_tai.Reads.Post
gps_from_tai κ a x y e f p q = viewed gps_tells x y p q
