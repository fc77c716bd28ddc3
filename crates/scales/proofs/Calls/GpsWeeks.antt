-- Weeks of GPS: each call leaves one answer for each input.
use mathlib.Core.Path.{sym, ◌∙◌}
use Rattle.refusals.proofs.OneAnswer.{OneAnswer, viewed}
use Rattle.scales.proofs.Tells.{gps_tells}
use Rattle.scales.proofs.gps.GpsScale
use Rattle.scales.proofs.gps.GpsWeeks

pub gps_from_week_tow : OneAnswer GpsWeeks.from_week_tow.Reads.Post
gps_from_week_tow κ a x y e f p q = viewed gps_tells x y p q

pub gps_week : OneAnswer GpsWeeks.week.Reads.Post
gps_week κ a x y e f p q = p ∙ sym q

pub gps_tow_seconds : OneAnswer GpsWeeks.tow_seconds.Reads.Post
gps_tow_seconds κ a x y e f p q = p ∙ sym q

pub gps_sub_second_nanos : OneAnswer GpsScale.sub_second_nanos.Reads.Post
gps_sub_second_nanos κ a x y e f p q = p ∙ sym q
