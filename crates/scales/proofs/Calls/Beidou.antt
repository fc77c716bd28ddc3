-- What BeiDou shares with every scale: each call leaves one answer for each input.
use mathlib.Core.Path.{sym, ◌∙◌}
use Rattle.refusals.proofs.OneAnswer.{OneAnswer, viewed}
use Rattle.counts.proofs.Tells.{duration_tells}
use Rattle.scales.proofs.Tells.{beidou_tells, beidou_count_tells}
use Rattle.scales.proofs.beidou.BeidouScale

pub beidou_answer_of : OneAnswer BeidouScale.of.Reads.Post
beidou_answer_of κ a x y e f p q = viewed beidou_tells x y p q

pub beidou_from_nanos : OneAnswer BeidouScale.from_nanos.Reads.Post
beidou_from_nanos κ a x y e f p q = viewed beidou_count_tells x y p q

pub beidou_as_nanos : OneAnswer BeidouScale.as_nanos.Reads.Post
beidou_as_nanos κ a x y e f p q = p ∙ sym q

pub beidou_checked_from_seconds : OneAnswer BeidouScale.checked_from_seconds.Reads.Post
beidou_checked_from_seconds κ a x y e f p q = viewed beidou_tells x y p q

pub beidou_as_seconds : OneAnswer BeidouScale.as_seconds.Reads.Post
beidou_as_seconds κ a x y e f p q = p ∙ sym q

pub beidou_as_parts : OneAnswer BeidouScale.as_parts.Reads.Post
beidou_as_parts κ a x y e f p q = p ∙ sym q

pub beidou_checked_add : OneAnswer BeidouScale.checked_add.Reads.Post
beidou_checked_add κ a x y e f p q = viewed beidou_tells x y p q

pub beidou_checked_sub_duration : OneAnswer BeidouScale.checked_sub_duration.Reads.Post
beidou_checked_sub_duration κ a x y e f p q = viewed beidou_tells x y p q

pub beidou_saturating_add : OneAnswer BeidouScale.saturating_add.Reads.Post
beidou_saturating_add κ a x y e f p q = viewed beidou_count_tells x y p q

pub beidou_saturating_sub_duration : OneAnswer BeidouScale.saturating_sub_duration.Reads.Post
beidou_saturating_sub_duration κ a x y e f p q = viewed beidou_count_tells x y p q

pub beidou_checked_elapsed : OneAnswer BeidouScale.checked_elapsed.Reads.Post
beidou_checked_elapsed κ a x y e f p q = viewed duration_tells x y p q
