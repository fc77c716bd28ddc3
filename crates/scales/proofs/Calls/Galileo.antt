-- What Galileo shares with every scale: each call leaves one answer for each input.
use mathlib.Core.Path.{sym, ◌∙◌}
use Rattle.refusals.proofs.OneAnswer.{OneAnswer, viewed}
use Rattle.counts.proofs.Tells.{duration_tells}
use Rattle.scales.proofs.Tells.{galileo_tells, galileo_count_tells}
use Rattle.scales.proofs.galileo.GalileoScale

pub galileo_answer_of : OneAnswer GalileoScale.of.Reads.Post
galileo_answer_of κ a x y e f p q = viewed galileo_tells x y p q

pub galileo_from_nanos : OneAnswer GalileoScale.from_nanos.Reads.Post
galileo_from_nanos κ a x y e f p q = viewed galileo_count_tells x y p q

pub galileo_as_nanos : OneAnswer GalileoScale.as_nanos.Reads.Post
galileo_as_nanos κ a x y e f p q = p ∙ sym q

pub galileo_checked_from_seconds : OneAnswer GalileoScale.checked_from_seconds.Reads.Post
galileo_checked_from_seconds κ a x y e f p q = viewed galileo_tells x y p q

pub galileo_as_seconds : OneAnswer GalileoScale.as_seconds.Reads.Post
galileo_as_seconds κ a x y e f p q = p ∙ sym q

pub galileo_as_parts : OneAnswer GalileoScale.as_parts.Reads.Post
galileo_as_parts κ a x y e f p q = p ∙ sym q

pub galileo_checked_add : OneAnswer GalileoScale.checked_add.Reads.Post
galileo_checked_add κ a x y e f p q = viewed galileo_tells x y p q

pub galileo_checked_sub_duration : OneAnswer GalileoScale.checked_sub_duration.Reads.Post
galileo_checked_sub_duration κ a x y e f p q = viewed galileo_tells x y p q

pub galileo_saturating_add : OneAnswer GalileoScale.saturating_add.Reads.Post
galileo_saturating_add κ a x y e f p q = viewed galileo_count_tells x y p q

pub galileo_saturating_sub_duration : OneAnswer GalileoScale.saturating_sub_duration.Reads.Post
galileo_saturating_sub_duration κ a x y e f p q = viewed galileo_count_tells x y p q

pub galileo_checked_elapsed : OneAnswer GalileoScale.checked_elapsed.Reads.Post
galileo_checked_elapsed κ a x y e f p q = viewed duration_tells x y p q
