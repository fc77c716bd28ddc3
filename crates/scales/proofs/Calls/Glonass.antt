-- What GLONASS shares with every scale: each call leaves one answer for each input.
use mathlib.Core.Path.{sym, ◌∙◌}
use Rattle.refusals.proofs.OneAnswer.{OneAnswer, viewed}
use Rattle.counts.proofs.Tells.{duration_tells}
use Rattle.scales.proofs.Tells.{glonass_tells, glonass_count_tells}
use Rattle.scales.proofs.glonass.GlonassScale

pub glonass_answer_of : OneAnswer GlonassScale.of.Reads.Post
glonass_answer_of κ a x y e f p q = viewed glonass_tells x y p q

pub glonass_from_nanos : OneAnswer GlonassScale.from_nanos.Reads.Post
glonass_from_nanos κ a x y e f p q = viewed glonass_count_tells x y p q

pub glonass_as_nanos : OneAnswer GlonassScale.as_nanos.Reads.Post
glonass_as_nanos κ a x y e f p q = p ∙ sym q

pub glonass_checked_from_seconds : OneAnswer GlonassScale.checked_from_seconds.Reads.Post
glonass_checked_from_seconds κ a x y e f p q = viewed glonass_tells x y p q

pub glonass_as_seconds : OneAnswer GlonassScale.as_seconds.Reads.Post
glonass_as_seconds κ a x y e f p q = p ∙ sym q

pub glonass_as_parts : OneAnswer GlonassScale.as_parts.Reads.Post
glonass_as_parts κ a x y e f p q = p ∙ sym q

pub glonass_checked_add : OneAnswer GlonassScale.checked_add.Reads.Post
glonass_checked_add κ a x y e f p q = viewed glonass_tells x y p q

pub glonass_checked_sub_duration : OneAnswer GlonassScale.checked_sub_duration.Reads.Post
glonass_checked_sub_duration κ a x y e f p q = viewed glonass_tells x y p q

pub glonass_saturating_add : OneAnswer GlonassScale.saturating_add.Reads.Post
glonass_saturating_add κ a x y e f p q = viewed glonass_count_tells x y p q

pub glonass_saturating_sub_duration : OneAnswer GlonassScale.saturating_sub_duration.Reads.Post
glonass_saturating_sub_duration κ a x y e f p q = viewed glonass_count_tells x y p q

pub glonass_checked_elapsed : OneAnswer GlonassScale.checked_elapsed.Reads.Post
glonass_checked_elapsed κ a x y e f p q = viewed duration_tells x y p q
