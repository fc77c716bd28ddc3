-- Galileo and BeiDou: each call leaves one answer for each input.
use Rattle.refusals.proofs.OneAnswer.{OneAnswer, viewed}
use Rattle.scales.proofs.Tells.{galileo_tells, beidou_tells}
use Rattle.scales.proofs.galileo.Galileo
use Rattle.scales.proofs.beidou.Beidou

pub galileo_to_beidou : OneAnswer Galileo.to_beidou.Reads.Post
galileo_to_beidou κ a x y e f p q = viewed beidou_tells x y p q

pub beidou_to_galileo : OneAnswer Beidou.to_galileo.Reads.Post
beidou_to_galileo κ a x y e f p q = viewed galileo_tells x y p q
