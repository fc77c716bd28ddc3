-- BeiDou to UTC and GLONASS and back: each call leaves one answer for each input.
use Rattle.refusals.proofs.OneAnswer.{OneAnswer, viewed}
use Rattle.scales.proofs.Tells.{utc_tells, glonass_tells, beidou_tells}
use Rattle.builtin.proofs.by_builtin.BeidouByBuiltin

pub beidou_to_utc : OneAnswer BeidouByBuiltin.to_utc.Reads.Post
beidou_to_utc κ a x y e f p q = viewed utc_tells x y p q

pub utc_to_beidou : OneAnswer BeidouByBuiltin.from_utc.Reads.Post
utc_to_beidou κ a x y e f p q = viewed beidou_tells x y p q

pub beidou_to_glonass : OneAnswer BeidouByBuiltin.to_glonass.Reads.Post
beidou_to_glonass κ a x y e f p q = viewed glonass_tells x y p q

pub glonass_to_beidou : OneAnswer BeidouByBuiltin.from_glonass.Reads.Post
glonass_to_beidou κ a x y e f p q = viewed beidou_tells x y p q
