-- Written by tools/write-scales from its template in tools/templates.
-- What Galileo shares with every scale: each call leaves one refusal number, and one value through each reference that it
-- writes, for each input.
use Rattle.refusals.proofs.OneAnswer.{OneAnswerAndEnd, both}
use Rattle.plaitgate.specs.Limits.{limits_at}
use Rattle.plaitgate.proofs.Parts.{parts_of}
use Rattle.plaitgate.proofs.every_scale.GalileoHostCounts

pub galileo_from_nanos : OneAnswerAndEnd GalileoHostCounts.scale_from_nanos.Reads.Post (λ κ e. e.1.0.now)
galileo_from_nanos κ a x y e f p q = both p q

pub galileo_as_nanos : OneAnswerAndEnd GalileoHostCounts.scale_as_nanos.Reads.Post (λ κ e. e.1.0.now)
galileo_as_nanos κ a x y e f p q = both p q

pub galileo_checked_from_seconds : OneAnswerAndEnd GalileoHostCounts.scale_checked_from_seconds.Reads.Post
    (λ κ e. e.1.0.now)
galileo_checked_from_seconds κ a x y e f p q = both p q

pub galileo_as_seconds : OneAnswerAndEnd GalileoHostCounts.scale_as_seconds.Reads.Post (λ κ e. e.1.0.now)
galileo_as_seconds κ a x y e f p q = both p q

pub galileo_as_parts : OneAnswerAndEnd GalileoHostCounts.scale_as_parts.Reads.Post
    (λ κ e. parts_of e.1.0.now e.1.1.0.now)
galileo_as_parts κ a x y e f p q = both p q

pub galileo_checked_add : OneAnswerAndEnd GalileoHostCounts.scale_checked_add.Reads.Post (λ κ e. e.1.1.0.now)
galileo_checked_add κ a x y e f p q = both p q

pub galileo_checked_sub_duration : OneAnswerAndEnd GalileoHostCounts.scale_checked_sub_duration.Reads.Post
    (λ κ e. e.1.1.0.now)
galileo_checked_sub_duration κ a x y e f p q = both p q

pub galileo_saturating_add : OneAnswerAndEnd GalileoHostCounts.scale_saturating_add.Reads.Post
    (λ κ e. e.1.1.0.now)
galileo_saturating_add κ a x y e f p q = both p q

pub galileo_saturating_sub_duration : OneAnswerAndEnd GalileoHostCounts.scale_saturating_sub_duration.Reads.Post
    (λ κ e. e.1.1.0.now)
galileo_saturating_sub_duration κ a x y e f p q = both p q

pub galileo_checked_elapsed : OneAnswerAndEnd GalileoHostCounts.scale_checked_elapsed.Reads.Post
    (λ κ e. e.1.1.0.now)
galileo_checked_elapsed κ a x y e f p q = both p q

pub galileo_limits : OneAnswerAndEnd GalileoHostCounts.scale_limits.Reads.Post
    (λ κ e. limits_at e.0.now e.1.0.now e.1.1.0.now e.1.1.1.0.now)
galileo_limits κ a x y e f p q = both p q
