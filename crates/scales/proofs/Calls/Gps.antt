-- What GPS shares with every scale: each call leaves one answer for each input.
use mathlib.Core.Path.{sym, ◌∙◌}
use Rattle.refusals.proofs.OneAnswer.{OneAnswer, viewed}
use Rattle.counts.proofs.Tells.{duration_tells}
use Rattle.scales.proofs.Tells.{gps_tells, gps_count_tells}
use Rattle.scales.proofs.gps.GpsScale

pub gps_answer_of : OneAnswer GpsScale.of.Reads.Post
gps_answer_of κ a x y e f p q = viewed gps_tells x y p q

pub gps_from_nanos : OneAnswer GpsScale.from_nanos.Reads.Post
gps_from_nanos κ a x y e f p q = viewed gps_count_tells x y p q

pub gps_as_nanos : OneAnswer GpsScale.as_nanos.Reads.Post
gps_as_nanos κ a x y e f p q = p ∙ sym q

pub gps_checked_from_seconds : OneAnswer GpsScale.checked_from_seconds.Reads.Post
gps_checked_from_seconds κ a x y e f p q = viewed gps_tells x y p q

pub gps_as_seconds : OneAnswer GpsScale.as_seconds.Reads.Post
gps_as_seconds κ a x y e f p q = p ∙ sym q

pub gps_as_parts : OneAnswer GpsScale.as_parts.Reads.Post
gps_as_parts κ a x y e f p q = p ∙ sym q

pub gps_checked_add : OneAnswer GpsScale.checked_add.Reads.Post
gps_checked_add κ a x y e f p q = viewed gps_tells x y p q

pub gps_checked_sub_duration : OneAnswer GpsScale.checked_sub_duration.Reads.Post
gps_checked_sub_duration κ a x y e f p q = viewed gps_tells x y p q

pub gps_saturating_add : OneAnswer GpsScale.saturating_add.Reads.Post
gps_saturating_add κ a x y e f p q = viewed gps_count_tells x y p q

pub gps_saturating_sub_duration : OneAnswer GpsScale.saturating_sub_duration.Reads.Post
gps_saturating_sub_duration κ a x y e f p q = viewed gps_count_tells x y p q

pub gps_checked_elapsed : OneAnswer GpsScale.checked_elapsed.Reads.Post
gps_checked_elapsed κ a x y e f p q = viewed duration_tells x y p q
