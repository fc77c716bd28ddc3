-- BeiDou and GPS: each call leaves one answer for each input.
use Rattle.refusals.proofs.OneAnswer.{OneAnswer, viewed}
use Rattle.scales.proofs.Tells.{gps_tells, beidou_tells}
use Rattle.scales.proofs.beidou.BeidouBehindGps

pub beidou_to_gps : OneAnswer BeidouBehindGps.to_gps.Reads.Post
beidou_to_gps κ a x y e f p q = viewed gps_tells x y p q

pub beidou_from_gps : OneAnswer BeidouBehindGps.from_gps.Reads.Post
beidou_from_gps κ a x y e f p q = viewed beidou_tells x y p q
