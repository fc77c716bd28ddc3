-- A refusal before is refused here.
use Rattle.std.proofs.Common.{ap, ◌∙◌}
use Rattle.refusals.specs.Outcome.{value_in, then, outcome_in}
use Rattle.tables.specs.Slots.{entries_of, valid_table, of_valid}
use Rattle.tables.specs.Expiry.{stale_at, dated}
use Rattle.conversions.specs.Conversions.{last_reading, utc_to_gps}
use Rattle.conversions.specs.Shifted.{shifted_reading}
use Rattle.conversions.proofs.Later.{refused_too}
use Rattle.conversions.proofs.Dated.{answer_is}
use Rattle.conversions.proofs.inner.by_table.shifted_from_utc.Goals as goal

pub returns-in-Err : goal.returns-in-Err
returns-in-Err c =
    let a = c.args in
    let t = a.table in
    let utc = outcome_in a.utc in
    let answer = answer_is (stale_at t.expiry (last_reading (entries_of t) (value_in 0 utc)))
    (of_valid t (then utc (utc_to_gps (entries_of t)))) c.gps_from_utc-found.ensures in
    let counts = refused_too a.behind (valid_table t) (entries_of t) utc answer (ap outcome_in c.in-Err.is) in
    let reading = shifted_reading a.behind (entries_of t) (value_in 0 utc) in
    c.new-in-Err.ensures ∙ (λ i. dated (stale_at t.expiry reading) (counts i))
