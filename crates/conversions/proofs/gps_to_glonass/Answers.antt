-- GPS to UTC, then the step to GLONASS.
use Rattle.std.proofs.Common.{◌+◌, ◌∙◌}
use Rattle.counts.specs.Exact.{down}
use Rattle.scales.specs.Scales.{tai_minus_gps}
use Rattle.tables.specs.Slots.{entries_of, valid_table}
use Rattle.tables.specs.Expiry.{stale_at}
use Rattle.conversions.specs.Conversions.{glonass_epoch, gps_to_utc}
use Rattle.conversions.proofs.Dated.{then-dated}
use Rattle.conversions.proofs.gps_to_glonass.Goals as goal

pub returns : goal.returns
returns c =
    let a = c.args in
    let t = a.table in
    c.on_scale.ensures ∙ c.glonass_from_utc.ensures
    ∙ then-dated (stale_at t.expiry (a.gps.0 + tai_minus_gps)) (valid_table t) (gps_to_utc (entries_of t) a.gps.0)
    c.utc_from_gps-utc.ensures (down glonass_epoch)
