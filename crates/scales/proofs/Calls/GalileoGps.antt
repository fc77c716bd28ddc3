-- Galileo and GPS: each call leaves one answer for each input.
use Rattle.refusals.proofs.OneAnswer.{OneAnswer, viewed}
use Rattle.scales.proofs.Tells.{gps_tells, galileo_tells}
use Rattle.scales.proofs.galileo.GalileoBehindGps

pub galileo_to_gps : OneAnswer GalileoBehindGps.to_gps.Reads.Post
galileo_to_gps κ a x y e f p q = viewed gps_tells x y p q

pub galileo_from_gps : OneAnswer GalileoBehindGps.from_gps.Reads.Post
galileo_from_gps κ a x y e f p q = viewed galileo_tells x y p q
