-- Written by tools/write-scales from its template in tools/templates.
-- What GPS shares with every scale: each call leaves one refusal number, and one value through each reference that it
-- writes, for each input.
use Rattle.refusals.proofs.OneAnswer.{OneAnswerAndEnd, both}
use Rattle.plaitgate.specs.Limits.{limits_at}
use Rattle.plaitgate.proofs.Parts.{parts_of}
use Rattle.plaitgate.proofs.every_scale.GpsHostCounts

pub gps_from_nanos : OneAnswerAndEnd GpsHostCounts.scale_from_nanos.Reads.Post (λ κ e. e.1.0.now)
gps_from_nanos κ a x y e f p q = both p q

pub gps_as_nanos : OneAnswerAndEnd GpsHostCounts.scale_as_nanos.Reads.Post (λ κ e. e.1.0.now)
gps_as_nanos κ a x y e f p q = both p q

pub gps_checked_from_seconds : OneAnswerAndEnd GpsHostCounts.scale_checked_from_seconds.Reads.Post
    (λ κ e. e.1.0.now)
gps_checked_from_seconds κ a x y e f p q = both p q

pub gps_as_seconds : OneAnswerAndEnd GpsHostCounts.scale_as_seconds.Reads.Post (λ κ e. e.1.0.now)
gps_as_seconds κ a x y e f p q = both p q

pub gps_as_parts : OneAnswerAndEnd GpsHostCounts.scale_as_parts.Reads.Post
    (λ κ e. parts_of e.1.0.now e.1.1.0.now)
gps_as_parts κ a x y e f p q = both p q

pub gps_checked_add : OneAnswerAndEnd GpsHostCounts.scale_checked_add.Reads.Post (λ κ e. e.1.1.0.now)
gps_checked_add κ a x y e f p q = both p q

pub gps_checked_sub_duration : OneAnswerAndEnd GpsHostCounts.scale_checked_sub_duration.Reads.Post
    (λ κ e. e.1.1.0.now)
gps_checked_sub_duration κ a x y e f p q = both p q

pub gps_saturating_add : OneAnswerAndEnd GpsHostCounts.scale_saturating_add.Reads.Post
    (λ κ e. e.1.1.0.now)
gps_saturating_add κ a x y e f p q = both p q

pub gps_saturating_sub_duration : OneAnswerAndEnd GpsHostCounts.scale_saturating_sub_duration.Reads.Post
    (λ κ e. e.1.1.0.now)
gps_saturating_sub_duration κ a x y e f p q = both p q

pub gps_checked_elapsed : OneAnswerAndEnd GpsHostCounts.scale_checked_elapsed.Reads.Post
    (λ κ e. e.1.1.0.now)
gps_checked_elapsed κ a x y e f p q = both p q

pub gps_limits : OneAnswerAndEnd GpsHostCounts.scale_limits.Reads.Post
    (λ κ e. limits_at e.0.now e.1.0.now e.1.1.0.now e.1.1.1.0.now)
gps_limits κ a x y e f p q = both p q
