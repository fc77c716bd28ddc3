-- Written by tools/write-scales from its template in tools/templates.
-- What TAI shares with every scale: each call leaves one refusal number, and one value through each reference that it
-- writes, for each input.
use Rattle.refusals.proofs.OneAnswer.{OneAnswerAndEnd, both}
use Rattle.plaitgate.specs.Limits.{limits_at}
use Rattle.plaitgate.proofs.Parts.{parts_of}
use Rattle.plaitgate.proofs.every_scale.TaiHostCounts

pub tai_from_nanos : OneAnswerAndEnd TaiHostCounts.scale_from_nanos.Reads.Post (λ κ e. e.1.0.now)
tai_from_nanos κ a x y e f p q = both p q

pub tai_as_nanos : OneAnswerAndEnd TaiHostCounts.scale_as_nanos.Reads.Post (λ κ e. e.1.0.now)
tai_as_nanos κ a x y e f p q = both p q

pub tai_checked_from_seconds : OneAnswerAndEnd TaiHostCounts.scale_checked_from_seconds.Reads.Post
    (λ κ e. e.1.0.now)
tai_checked_from_seconds κ a x y e f p q = both p q

pub tai_as_seconds : OneAnswerAndEnd TaiHostCounts.scale_as_seconds.Reads.Post (λ κ e. e.1.0.now)
tai_as_seconds κ a x y e f p q = both p q

pub tai_as_parts : OneAnswerAndEnd TaiHostCounts.scale_as_parts.Reads.Post
    (λ κ e. parts_of e.1.0.now e.1.1.0.now)
tai_as_parts κ a x y e f p q = both p q

pub tai_checked_add : OneAnswerAndEnd TaiHostCounts.scale_checked_add.Reads.Post (λ κ e. e.1.1.0.now)
tai_checked_add κ a x y e f p q = both p q

pub tai_checked_sub_duration : OneAnswerAndEnd TaiHostCounts.scale_checked_sub_duration.Reads.Post
    (λ κ e. e.1.1.0.now)
tai_checked_sub_duration κ a x y e f p q = both p q

pub tai_saturating_add : OneAnswerAndEnd TaiHostCounts.scale_saturating_add.Reads.Post
    (λ κ e. e.1.1.0.now)
tai_saturating_add κ a x y e f p q = both p q

pub tai_saturating_sub_duration : OneAnswerAndEnd TaiHostCounts.scale_saturating_sub_duration.Reads.Post
    (λ κ e. e.1.1.0.now)
tai_saturating_sub_duration κ a x y e f p q = both p q

pub tai_checked_elapsed : OneAnswerAndEnd TaiHostCounts.scale_checked_elapsed.Reads.Post
    (λ κ e. e.1.1.0.now)
tai_checked_elapsed κ a x y e f p q = both p q

pub tai_limits : OneAnswerAndEnd TaiHostCounts.scale_limits.Reads.Post
    (λ κ e. limits_at e.0.now e.1.0.now e.1.1.0.now e.1.1.1.0.now)
tai_limits κ a x y e f p q = both p q
