-- What TAI shares with every scale: each call leaves one answer for each input.
use mathlib.Core.Path.{sym, ◌∙◌}
use Rattle.refusals.proofs.OneAnswer.{OneAnswer, viewed}
use Rattle.counts.proofs.Tells.{duration_tells}
use Rattle.scales.proofs.Tells.{tai_tells, tai_count_tells}
use Rattle.scales.proofs.tai.TaiScale

pub tai_answer_of : OneAnswer TaiScale.of.Reads.Post
tai_answer_of κ a x y e f p q = viewed tai_tells x y p q

pub tai_from_nanos : OneAnswer TaiScale.from_nanos.Reads.Post
tai_from_nanos κ a x y e f p q = viewed tai_count_tells x y p q

pub tai_as_nanos : OneAnswer TaiScale.as_nanos.Reads.Post
tai_as_nanos κ a x y e f p q = p ∙ sym q

pub tai_checked_from_seconds : OneAnswer TaiScale.checked_from_seconds.Reads.Post
tai_checked_from_seconds κ a x y e f p q = viewed tai_tells x y p q

pub tai_as_seconds : OneAnswer TaiScale.as_seconds.Reads.Post
tai_as_seconds κ a x y e f p q = p ∙ sym q

pub tai_as_parts : OneAnswer TaiScale.as_parts.Reads.Post
tai_as_parts κ a x y e f p q = p ∙ sym q

pub tai_checked_add : OneAnswer TaiScale.checked_add.Reads.Post
tai_checked_add κ a x y e f p q = viewed tai_tells x y p q

pub tai_checked_sub_duration : OneAnswer TaiScale.checked_sub_duration.Reads.Post
tai_checked_sub_duration κ a x y e f p q = viewed tai_tells x y p q

pub tai_saturating_add : OneAnswer TaiScale.saturating_add.Reads.Post
tai_saturating_add κ a x y e f p q = viewed tai_count_tells x y p q

pub tai_saturating_sub_duration : OneAnswer TaiScale.saturating_sub_duration.Reads.Post
tai_saturating_sub_duration κ a x y e f p q = viewed tai_count_tells x y p q

pub tai_checked_elapsed : OneAnswer TaiScale.checked_elapsed.Reads.Post
tai_checked_elapsed κ a x y e f p q = viewed duration_tells x y p q

pub tai_sub_second_nanos : OneAnswer TaiScale.sub_second_nanos.Reads.Post
tai_sub_second_nanos κ a x y e f p q = p ∙ sym q
