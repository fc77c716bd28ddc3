-- The difference is added, and then GPS goes to UTC.
use Rattle.std.proofs.Common.{◌+◌, ◌∙◌}
use Rattle.refusals.specs.Outcome.{outcome_in}
use Rattle.scales.specs.Scales.{tai_minus_gps}
use Rattle.conversions.specs.Conversions.{gps_to_utc}
use Rattle.images.proofs.Dated.{sum_first}
use Rattle.images.proofs.table.utc_from_shifted.Goals as goal

pub returns : goal.returns
returns c =
    let a = c.args in
    c.utc_from_gps.ensures
    ∙ sum_first a.image.now (λ es n. n + tai_minus_gps) gps_to_utc a.behind (outcome_in a.count) c.up.ensures
