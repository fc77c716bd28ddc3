-- Durations as numbers: each call leaves one answer for each input.
use mathlib.Core.Path.{sym, ◌∙◌}
use Rattle.refusals.proofs.OneAnswer.{OneAnswer, viewed}
use Rattle.counts.proofs.Tells.{duration_number_tells}
use Rattle.scales.proofs.duration

pub duration_from_nanos : OneAnswer duration.from_nanos.Reads.Post
duration_from_nanos κ a x y e f p q = viewed duration_number_tells x y p q

pub duration_as_nanos : OneAnswer duration.as_nanos.Reads.Post
duration_as_nanos κ a x y e f p q = p ∙ sym q
