-- Civil dates and times, and the entry of an event: each call gives the number and the value of an outcome, so a
-- refusal writes zeros.
use lib.IntN.{pos}
use Rattle.refusals.proofs.Given.{zeros_on_refusal}
use Rattle.calendar.specs.Calendar.{on}
use Rattle.calendar.specs.Dates.{days_from_unix, days_until, seconds_until, nanos_until}
use Rattle.civil.specs.Fields.{fields, count_at}
use Rattle.builtin.specs.Events.{event_threshold}
use Rattle.plaitgate.proofs.civil_dates
use Rattle.plaitgate.proofs.civil_times
use Rattle.plaitgate.proofs.leap_events
use Rattle.demands.specs.RefusalsLeave.{ZerosOnRefusal}

pub days_from_unix_lem : ZerosOnRefusal civil_dates.plaitgate_civil_date_days_from_unix.Reads.Post
    (pos 0) (λ κ e. e.1.1.1.0.now)
days_from_unix_lem κ a k e = zeros_on_refusal (days_from_unix (on a.0 a.1.0 a.1.1.0))

pub days_until_lem : ZerosOnRefusal civil_dates.plaitgate_civil_date_days_until.Reads.Post
    (pos 0) (λ κ e. e.1.1.1.1.1.1.0.now)
days_until_lem κ a k e =
    let b = a.1.1.1 in
    zeros_on_refusal (days_until (on a.0 a.1.0 a.1.1.0) (on b.0 b.1.0 b.1.1.0))

pub seconds_until_lem : ZerosOnRefusal civil_dates.plaitgate_civil_date_seconds_until.Reads.Post
    (pos 0) (λ κ e. e.1.1.1.1.1.1.0.now)
seconds_until_lem κ a k e =
    let b = a.1.1.1 in
    zeros_on_refusal (seconds_until (on a.0 a.1.0 a.1.1.0) (on b.0 b.1.0 b.1.1.0))

pub nanos_until_lem : ZerosOnRefusal civil_dates.plaitgate_civil_date_nanos_until.Reads.Post
    (pos 0) (λ κ e. e.1.1.1.1.1.1.0.now)
nanos_until_lem κ a k e =
    let b = a.1.1.1 in
    zeros_on_refusal (nanos_until (on a.0 a.1.0 a.1.1.0) (on b.0 b.1.0 b.1.1.0))

pub to_utc_nanos : ZerosOnRefusal civil_times.plaitgate_civil_to_utc_nanos.Reads.Post
    0 (λ κ e. e.1.1.1.1.1.1.1.0.now)
to_utc_nanos κ a k e =
    let b = a.1.1.1 in
    zeros_on_refusal (count_at (fields a.0 a.1.0 a.1.1.0 b.0 b.1.0 b.1.1.0 b.1.1.1.0))

pub to_utc : ZerosOnRefusal civil_times.plaitgate_civil_to_utc.Reads.Post 0 (λ κ e. e.1.1.1.1.1.1.1.0.now)
to_utc = to_utc_nanos

pub entry_of_event_lem : ZerosOnRefusal leap_events.plaitgate_entry_of_event.Reads.Post 0 (λ κ e. e.1.1.1.1.0.now)
entry_of_event_lem κ a k e = zeros_on_refusal (event_threshold (on a.0 a.1.0 a.1.1.0) a.1.1.1.0)
