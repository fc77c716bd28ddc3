-- Each call on civil dates leaves one refusal number, and one value through each reference that it writes, for each
-- input.
use Rattle.refusals.proofs.OneAnswer.{OneAnswerAndEnd, both}
use Rattle.calendar.specs.Calendar.{on}
use Rattle.plaitgate.proofs.civil_dates

pub civil_date_new : OneAnswerAndEnd civil_dates.plaitgate_civil_date_new.Reads.Post
    (λ κ e. on e.1.1.1.0.now e.1.1.1.1.0.now e.1.1.1.1.1.0.now)
civil_date_new κ a x y e f p q = both p q

pub civil_date_days_from_unix : OneAnswerAndEnd civil_dates.plaitgate_civil_date_days_from_unix.Reads.Post
    (λ κ e. e.1.1.1.0.now)
civil_date_days_from_unix κ a x y e f p q = both p q

pub civil_date_days_until : OneAnswerAndEnd civil_dates.plaitgate_civil_date_days_until.Reads.Post
    (λ κ e. e.1.1.1.1.1.1.0.now)
civil_date_days_until κ a x y e f p q = both p q

pub civil_date_seconds_until : OneAnswerAndEnd civil_dates.plaitgate_civil_date_seconds_until.Reads.Post
    (λ κ e. e.1.1.1.1.1.1.0.now)
civil_date_seconds_until κ a x y e f p q = both p q

pub civil_date_nanos_until : OneAnswerAndEnd civil_dates.plaitgate_civil_date_nanos_until.Reads.Post
    (λ κ e. e.1.1.1.1.1.1.0.now)
civil_date_nanos_until κ a x y e f p q = both p q
