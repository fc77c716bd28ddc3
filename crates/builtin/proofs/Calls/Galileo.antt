-- Galileo to UTC and GLONASS and back: each call leaves one answer for each input.
use Rattle.refusals.proofs.OneAnswer.{OneAnswer, viewed}
use Rattle.scales.proofs.Tells.{utc_tells, glonass_tells, galileo_tells}
use Rattle.builtin.proofs.by_builtin.GalileoByBuiltin

pub galileo_to_utc : OneAnswer GalileoByBuiltin.to_utc.Reads.Post
galileo_to_utc κ a x y e f p q = viewed utc_tells x y p q

pub utc_to_galileo : OneAnswer GalileoByBuiltin.from_utc.Reads.Post
utc_to_galileo κ a x y e f p q = viewed galileo_tells x y p q

pub galileo_to_glonass : OneAnswer GalileoByBuiltin.to_glonass.Reads.Post
galileo_to_glonass κ a x y e f p q = viewed glonass_tells x y p q

pub glonass_to_galileo : OneAnswer GalileoByBuiltin.from_glonass.Reads.Post
glonass_to_galileo κ a x y e f p q = viewed galileo_tells x y p q
