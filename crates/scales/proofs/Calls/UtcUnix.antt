-- What UTC alone has: each call leaves one answer for each input.
use mathlib.Core.Path.{sym, ◌∙◌}
use Rattle.refusals.proofs.OneAnswer.{OneAnswer, viewed}
use Rattle.scales.proofs.Tells.{utc_tells}
use Rattle.scales.proofs.utc.Utc

pub utc_from_unix_seconds : OneAnswer Utc.from_unix_seconds.Reads.Post
utc_from_unix_seconds κ a x y e f p q = viewed utc_tells x y p q

pub utc_from_unix_nanos : OneAnswer Utc.from_unix_nanos.Reads.Post
utc_from_unix_nanos κ a x y e f p q = viewed utc_tells x y p q

pub utc_as_unix_seconds : OneAnswer Utc.as_unix_seconds.Reads.Post
utc_as_unix_seconds κ a x y e f p q = p ∙ sym q

pub utc_as_unix_nanos : OneAnswer Utc.as_unix_nanos.Reads.Post
utc_as_unix_nanos κ a x y e f p q = p ∙ sym q
