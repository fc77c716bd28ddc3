-- What GLONASS alone has: each call leaves one answer for each input.
use mathlib.Core.Path.{sym, ◌∙◌}
use Rattle.refusals.proofs.OneAnswer.{OneAnswer, viewed}
use Rattle.scales.proofs.Tells.{glonass_tells}
use Rattle.scales.proofs.glonass.Glonass
use Rattle.scales.proofs.glonass.GlonassScale

pub glonass_from_day_tod : OneAnswer Glonass.from_day_tod.Reads.Post
glonass_from_day_tod κ a x y e f p q = viewed glonass_tells x y p q

pub glonass_day : OneAnswer Glonass.day.Reads.Post
glonass_day κ a x y e f p q = p ∙ sym q

pub glonass_tod_seconds : OneAnswer Glonass.tod_seconds.Reads.Post
glonass_tod_seconds κ a x y e f p q = p ∙ sym q

pub glonass_sub_second_nanos : OneAnswer GlonassScale.sub_second_nanos.Reads.Post
glonass_sub_second_nanos κ a x y e f p q = p ∙ sym q

pub glonass_day_of_week : OneAnswer Glonass.day_of_week.Reads.Post
glonass_day_of_week κ a x y e f p q = p ∙ sym q

pub glonass_is_weekend : OneAnswer Glonass.is_weekend.Reads.Post
glonass_is_weekend κ a x y e f p q = p ∙ sym q
