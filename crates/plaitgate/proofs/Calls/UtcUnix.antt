-- What UTC alone has: each call leaves one refusal number, and one value through each reference that it writes, for
-- each input.
use Rattle.refusals.proofs.OneAnswer.{OneAnswerAndEnd, both}
use Rattle.plaitgate.proofs.utc_unix

pub utc_from_unix_seconds : OneAnswerAndEnd utc_unix.plaitgate_utc_from_unix_seconds.Reads.Post (λ κ e. e.1.0.now)
utc_from_unix_seconds κ a x y e f p q = both p q

pub utc_from_unix_nanos : OneAnswerAndEnd utc_unix.plaitgate_utc_from_unix_nanos.Reads.Post (λ κ e. e.1.0.now)
utc_from_unix_nanos κ a x y e f p q = both p q

pub utc_as_unix_seconds : OneAnswerAndEnd utc_unix.plaitgate_utc_as_unix_seconds.Reads.Post (λ κ e. e.1.0.now)
utc_as_unix_seconds κ a x y e f p q = both p q

pub utc_as_unix_nanos : OneAnswerAndEnd utc_unix.plaitgate_utc_as_unix_nanos.Reads.Post (λ κ e. e.1.0.now)
utc_as_unix_nanos κ a x y e f p q = both p q
