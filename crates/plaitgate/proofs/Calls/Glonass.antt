-- Written by tools/write-scales from its template in tools/templates.
-- What GLONASS shares with every scale: each call leaves one refusal number, and one value through each reference that it
-- writes, for each input.
use Rattle.refusals.proofs.OneAnswer.{OneAnswerAndEnd, both}
use Rattle.plaitgate.specs.Limits.{limits_at}
use Rattle.plaitgate.proofs.Parts.{parts_of}
use Rattle.plaitgate.proofs.every_scale.GlonassHostCounts

pub glonass_from_nanos : OneAnswerAndEnd GlonassHostCounts.scale_from_nanos.Reads.Post (λ κ e. e.1.0.now)
glonass_from_nanos κ a x y e f p q = both p q

pub glonass_as_nanos : OneAnswerAndEnd GlonassHostCounts.scale_as_nanos.Reads.Post (λ κ e. e.1.0.now)
glonass_as_nanos κ a x y e f p q = both p q

pub glonass_checked_from_seconds : OneAnswerAndEnd GlonassHostCounts.scale_checked_from_seconds.Reads.Post
    (λ κ e. e.1.0.now)
glonass_checked_from_seconds κ a x y e f p q = both p q

pub glonass_as_seconds : OneAnswerAndEnd GlonassHostCounts.scale_as_seconds.Reads.Post (λ κ e. e.1.0.now)
glonass_as_seconds κ a x y e f p q = both p q

pub glonass_as_parts : OneAnswerAndEnd GlonassHostCounts.scale_as_parts.Reads.Post
    (λ κ e. parts_of e.1.0.now e.1.1.0.now)
glonass_as_parts κ a x y e f p q = both p q

pub glonass_checked_add : OneAnswerAndEnd GlonassHostCounts.scale_checked_add.Reads.Post (λ κ e. e.1.1.0.now)
glonass_checked_add κ a x y e f p q = both p q

pub glonass_checked_sub_duration : OneAnswerAndEnd GlonassHostCounts.scale_checked_sub_duration.Reads.Post
    (λ κ e. e.1.1.0.now)
glonass_checked_sub_duration κ a x y e f p q = both p q

pub glonass_saturating_add : OneAnswerAndEnd GlonassHostCounts.scale_saturating_add.Reads.Post
    (λ κ e. e.1.1.0.now)
glonass_saturating_add κ a x y e f p q = both p q

pub glonass_saturating_sub_duration : OneAnswerAndEnd GlonassHostCounts.scale_saturating_sub_duration.Reads.Post
    (λ κ e. e.1.1.0.now)
glonass_saturating_sub_duration κ a x y e f p q = both p q

pub glonass_checked_elapsed : OneAnswerAndEnd GlonassHostCounts.scale_checked_elapsed.Reads.Post
    (λ κ e. e.1.1.0.now)
glonass_checked_elapsed κ a x y e f p q = both p q

pub glonass_limits : OneAnswerAndEnd GlonassHostCounts.scale_limits.Reads.Post
    (λ κ e. limits_at e.0.now e.1.0.now e.1.1.0.now e.1.1.1.0.now)
glonass_limits κ a x y e f p q = both p q
