-- Weeks of Galileo: each call leaves one answer for each input.
use mathlib.Core.Path.{sym, ◌∙◌}
use Rattle.refusals.proofs.OneAnswer.{OneAnswer, viewed}
use Rattle.scales.proofs.Tells.{galileo_tells}
use Rattle.scales.proofs.galileo.GalileoScale
use Rattle.scales.proofs.galileo.GalileoWeeks

pub galileo_from_week_tow : OneAnswer GalileoWeeks.from_week_tow.Reads.Post
galileo_from_week_tow κ a x y e f p q = viewed galileo_tells x y p q

pub galileo_week : OneAnswer GalileoWeeks.week.Reads.Post
galileo_week κ a x y e f p q = p ∙ sym q

pub galileo_tow_seconds : OneAnswer GalileoWeeks.tow_seconds.Reads.Post
galileo_tow_seconds κ a x y e f p q = p ∙ sym q

pub galileo_sub_second_nanos : OneAnswer GalileoScale.sub_second_nanos.Reads.Post
galileo_sub_second_nanos κ a x y e f p q = p ∙ sym q
