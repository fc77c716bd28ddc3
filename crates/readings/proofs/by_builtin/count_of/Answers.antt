-- By one lookup a second on; or by the first GPS count that has the fields' UTC count, and a lookup at its TAI reading.
use Rattle.std.proofs.Common.{sym, ap, ◌∙◌, ℕ}
use borrow.Author.Tests.{ne_eqb}
use Rattle.refusals.specs.Outcome.{Outcome, value_in, then}
use Rattle.counts.specs.Exact.{up, down}
use Rattle.counts.specs.Units.{second}
use Rattle.civil.specs.Fields.{count_at}
use Rattle.conversions.specs.Conversions.{utc_to_gps}
use Rattle.builtin.specs.Builtin.{builtin}
use Rattle.builtin.proofs.Regular.{builtin_on_days}
use Rattle.readings.proofs.ByLookup.{back_by}
use Rattle.readings.proofs.FirstAndLast.{by_next}
use Rattle.readings.proofs.by_builtin.count_of.Goals as goal

pub returns-in-Ok : goal.returns-in-Ok
returns-in-Ok c =
    let later = ap (λ (o : Outcome ℕ). then o (up second)) c.to_utc_nanos-utc.ensures in
    rw (ne_eqb _ 60 c.if-fields-ne-INSERTED.true)
    (c.down.ensures ∙ ap (λ (o : Outcome ℕ). then o (down second)) c.gps_from_utc.ensures
    ∙ ap (λ (o : Outcome ℕ). then (then o (utc_to_gps builtin)) (down second)) (c.up-next.ensures ∙ later)
    ∙ by_next builtin builtin_on_days (count_at c.args.fields) _ (sym (c.in-Ok.ensures ∙ later)))

pub returns : goal.returns
returns c =
    c.back.ensures
    ∙ back_by builtin builtin_on_days _ c.to_utc_nanos-utc.ensures c.gps_from_utc-first.ensures
    (c.reading_of.ensures ∙ ap (value_in 0) c.tai_of.ensures)
    (c.entry_told-found.ensures ∙ c.event_at.ensures.is)
