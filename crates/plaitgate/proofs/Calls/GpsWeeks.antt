-- Written by tools/write-scales from its template in tools/templates.
-- Weeks of GPS: each call leaves one refusal number, and one value through each reference that it writes, for each
-- input.
use Rattle.refusals.proofs.OneAnswer.{OneAnswerAndEnd, both}
use Rattle.plaitgate.proofs.weeks.GpsHostWeeks

pub gps_from_week_tow : OneAnswerAndEnd GpsHostWeeks.scale_from_week_tow.Reads.Post
    (λ κ e. e.1.1.1.0.now)
gps_from_week_tow κ a x y e f p q = both p q

pub gps_week : OneAnswerAndEnd GpsHostWeeks.scale_week.Reads.Post (λ κ e. e.1.0.now)
gps_week κ a x y e f p q = both p q

pub gps_tow_seconds : OneAnswerAndEnd GpsHostWeeks.scale_tow_seconds.Reads.Post (λ κ e. e.1.0.now)
gps_tow_seconds κ a x y e f p q = both p q

pub gps_sub_second_nanos : OneAnswerAndEnd GpsHostWeeks.scale_sub_second_nanos.Reads.Post
    (λ κ e. e.1.0.now)
gps_sub_second_nanos κ a x y e f p q = both p q
