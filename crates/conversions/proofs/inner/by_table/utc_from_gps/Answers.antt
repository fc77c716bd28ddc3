-- One checked lookup, at the TAI reading.
use Rattle.std.proofs.Common.{ap, ◌∙◌}
use Rattle.refusals.specs.Outcome.{value_in, outcome_in}
use Rattle.tables.specs.Slots.{entries_of, valid_table}
use Rattle.tables.specs.Expiry.{stale_at, dated}
use Rattle.conversions.proofs.ByLookup.{utc_from_store}
use Rattle.conversions.proofs.Dated.{at_gps}
use Rattle.conversions.proofs.inner.by_table.utc_from_gps.Goals as goal

pub returns : goal.returns
returns c =
    let a = c.args in
    let x = a.table.expiry in
    let counts = c.utc_from_lookup.ensures
    ∙ utc_from_store (valid_table a.table) (entries_of a.table) (outcome_in a.gps) c.tai_of-tai.ensures
    c.reading_of-reading.ensures c.checked_look_up-found.ensures in
    let reads = c.is_stale-stale.ensures
    ∙ ap (stale_at x) (c.reading_of-reading.ensures ∙ ap (value_in 0) c.tai_of-tai.ensures) in
    c.new.ensures ∙ (λ i. dated (reads i) (counts i))
    ∙ at_gps x (valid_table a.table) (entries_of a.table) (outcome_in a.gps)
