-- Durations: each call leaves one refusal number, and one value through each reference that it writes, for each input.
use Rattle.refusals.proofs.OneAnswer.{OneAnswerAndEnd, both}
use Rattle.plaitgate.proofs.Parts.{parts_of}
use Rattle.plaitgate.proofs.durations

pub duration_parts_new : OneAnswerAndEnd durations.plaitgate_duration_parts_new.Reads.Post
    (λ κ e. parts_of e.1.1.0.now e.1.1.1.0.now)
duration_parts_new κ a x y e f p q = both p q

pub duration_from_nanos : OneAnswerAndEnd durations.plaitgate_duration_from_nanos.Reads.Post (λ κ e. e.1.0.now)
duration_from_nanos κ a x y e f p q = both p q

pub duration_as_nanos : OneAnswerAndEnd durations.plaitgate_duration_as_nanos.Reads.Post (λ κ e. e.1.0.now)
duration_as_nanos κ a x y e f p q = both p q
