-- Each call on civil dates and times leaves one refusal number, and one value through each reference that it writes,
-- for each input.
use Rattle.refusals.proofs.OneAnswer.{OneAnswerAndEnd, both}
use Rattle.civil.specs.Fields.{fields}
use Rattle.plaitgate.proofs.civil_times

pub civil_from_utc_nanos : OneAnswerAndEnd civil_times.plaitgate_civil_from_utc_nanos.Reads.Post
    (λ κ e. fields e.1.0.now e.1.1.0.now e.1.1.1.0.now e.1.1.1.1.0.now
    e.1.1.1.1.1.0.now e.1.1.1.1.1.1.0.now e.1.1.1.1.1.1.1.0.now)
civil_from_utc_nanos κ a x y e f p q = both p q

pub utc_to_civil : OneAnswerAndEnd civil_times.plaitgate_utc_to_civil.Reads.Post
    (λ κ e. fields e.1.0.now e.1.1.0.now e.1.1.1.0.now e.1.1.1.1.0.now
    e.1.1.1.1.1.0.now e.1.1.1.1.1.1.0.now e.1.1.1.1.1.1.1.0.now)
utc_to_civil κ a x y e f p q = both p q

pub civil_to_utc_nanos : OneAnswerAndEnd civil_times.plaitgate_civil_to_utc_nanos.Reads.Post
    (λ κ e. e.1.1.1.1.1.1.1.0.now)
civil_to_utc_nanos κ a x y e f p q = both p q

pub civil_to_utc : OneAnswerAndEnd civil_times.plaitgate_civil_to_utc.Reads.Post
    (λ κ e. e.1.1.1.1.1.1.1.0.now)
civil_to_utc κ a x y e f p q = both p q

pub civil_is_whole_second : OneAnswerAndEnd civil_times.plaitgate_civil_is_whole_second.Reads.Post
    (λ κ e. e.1.1.1.1.1.1.1.0.now)
civil_is_whole_second κ a x y e f p q = both p q
