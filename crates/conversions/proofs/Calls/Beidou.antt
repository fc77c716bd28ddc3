-- BeiDou to UTC and GLONASS and back: each call leaves one answer for each input.
use Rattle.refusals.proofs.OneAnswer.{OneAnswer, viewed}
use Rattle.conversions.proofs.Tells.{dated_utc_tells, dated_glonass_tells, dated_beidou_tells}
use Rattle.conversions.proofs.by_table.BeidouByTable

pub beidou_to_utc : OneAnswer BeidouByTable.to_utc.Reads.Post
beidou_to_utc κ a x y e f p q = viewed dated_utc_tells x y p q

pub utc_to_beidou : OneAnswer BeidouByTable.from_utc.Reads.Post
utc_to_beidou κ a x y e f p q = viewed dated_beidou_tells x y p q

pub beidou_to_glonass : OneAnswer BeidouByTable.to_glonass.Reads.Post
beidou_to_glonass κ a x y e f p q = viewed dated_glonass_tells x y p q

pub glonass_to_beidou : OneAnswer BeidouByTable.from_glonass.Reads.Post
glonass_to_beidou κ a x y e f p q = viewed dated_beidou_tells x y p q
