-- Weeks of BeiDou: each call leaves one answer for each input.
use mathlib.Core.Path.{sym, ◌∙◌}
use Rattle.refusals.proofs.OneAnswer.{OneAnswer, viewed}
use Rattle.scales.proofs.Tells.{beidou_tells}
use Rattle.scales.proofs.beidou.BeidouScale
use Rattle.scales.proofs.beidou.BeidouWeeks

pub beidou_from_week_tow : OneAnswer BeidouWeeks.from_week_tow.Reads.Post
beidou_from_week_tow κ a x y e f p q = viewed beidou_tells x y p q

pub beidou_week : OneAnswer BeidouWeeks.week.Reads.Post
beidou_week κ a x y e f p q = p ∙ sym q

pub beidou_tow_seconds : OneAnswer BeidouWeeks.tow_seconds.Reads.Post
beidou_tow_seconds κ a x y e f p q = p ∙ sym q

pub beidou_sub_second_nanos : OneAnswer BeidouScale.sub_second_nanos.Reads.Post
beidou_sub_second_nanos κ a x y e f p q = p ∙ sym q
