-- Galileo to UTC and GLONASS and back: each call leaves one answer for each input.
use Rattle.refusals.proofs.OneAnswer.{OneAnswer, viewed}
use Rattle.conversions.proofs.Tells.{dated_utc_tells, dated_glonass_tells, dated_galileo_tells}
use Rattle.conversions.proofs.by_table.GalileoByTable

pub galileo_to_utc : OneAnswer GalileoByTable.to_utc.Reads.Post
galileo_to_utc κ a x y e f p q = viewed dated_utc_tells x y p q

pub utc_to_galileo : OneAnswer GalileoByTable.from_utc.Reads.Post
utc_to_galileo κ a x y e f p q = viewed dated_galileo_tells x y p q

pub galileo_to_glonass : OneAnswer GalileoByTable.to_glonass.Reads.Post
galileo_to_glonass κ a x y e f p q = viewed dated_glonass_tells x y p q

pub glonass_to_galileo : OneAnswer GalileoByTable.from_glonass.Reads.Post
glonass_to_galileo κ a x y e f p q = viewed dated_galileo_tells x y p q
