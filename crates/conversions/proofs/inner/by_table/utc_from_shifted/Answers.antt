-- The difference is added, and then GPS goes to UTC.
use Rattle.std.proofs.Common.{◌+◌, ◌∙◌}
use Rattle.refusals.specs.Outcome.{outcome_in}
use Rattle.scales.specs.Scales.{tai_minus_gps}
use Rattle.tables.specs.Slots.{entries_of, valid_table}
use Rattle.conversions.specs.Conversions.{gps_to_utc}
use Rattle.conversions.proofs.Dated.{sum_first}
use Rattle.conversions.proofs.inner.by_table.utc_from_shifted.Goals as goal

pub returns : goal.returns
returns c =
    let a = c.args in
    c.utc_from_gps.ensures
    ∙ sum_first a.table.expiry (valid_table a.table) (λ n. n + tai_minus_gps) (gps_to_utc (entries_of a.table))
    a.behind (outcome_in a.count) c.up.ensures
