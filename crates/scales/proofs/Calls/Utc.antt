-- What UTC shares with every scale: each call leaves one answer for each input.
use mathlib.Core.Path.{sym, ◌∙◌}
use Rattle.refusals.proofs.OneAnswer.{OneAnswer, viewed}
use Rattle.counts.proofs.Tells.{duration_tells}
use Rattle.scales.proofs.Tells.{utc_tells, utc_count_tells}
use Rattle.scales.proofs.utc.UtcScale

pub utc_answer_of : OneAnswer UtcScale.of.Reads.Post
utc_answer_of κ a x y e f p q = viewed utc_tells x y p q

pub utc_from_nanos : OneAnswer UtcScale.from_nanos.Reads.Post
utc_from_nanos κ a x y e f p q = viewed utc_count_tells x y p q

pub utc_as_nanos : OneAnswer UtcScale.as_nanos.Reads.Post
utc_as_nanos κ a x y e f p q = p ∙ sym q

pub utc_checked_from_seconds : OneAnswer UtcScale.checked_from_seconds.Reads.Post
utc_checked_from_seconds κ a x y e f p q = viewed utc_tells x y p q

pub utc_as_seconds : OneAnswer UtcScale.as_seconds.Reads.Post
utc_as_seconds κ a x y e f p q = p ∙ sym q

pub utc_as_parts : OneAnswer UtcScale.as_parts.Reads.Post
utc_as_parts κ a x y e f p q = p ∙ sym q

pub utc_checked_add : OneAnswer UtcScale.checked_add.Reads.Post
utc_checked_add κ a x y e f p q = viewed utc_tells x y p q

pub utc_checked_sub_duration : OneAnswer UtcScale.checked_sub_duration.Reads.Post
utc_checked_sub_duration κ a x y e f p q = viewed utc_tells x y p q

pub utc_saturating_add : OneAnswer UtcScale.saturating_add.Reads.Post
utc_saturating_add κ a x y e f p q = viewed utc_count_tells x y p q

pub utc_saturating_sub_duration : OneAnswer UtcScale.saturating_sub_duration.Reads.Post
utc_saturating_sub_duration κ a x y e f p q = viewed utc_count_tells x y p q

pub utc_checked_elapsed : OneAnswer UtcScale.checked_elapsed.Reads.Post
utc_checked_elapsed κ a x y e f p q = viewed duration_tells x y p q

pub utc_sub_second_nanos : OneAnswer UtcScale.sub_second_nanos.Reads.Post
utc_sub_second_nanos κ a x y e f p q = p ∙ sym q
