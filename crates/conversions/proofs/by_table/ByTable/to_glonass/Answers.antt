-- To UTC, then the step to GLONASS.
use Rattle.std.proofs.Common.{◌+◌, ◌∙◌}
use Rattle.counts.specs.Exact.{down}
use Rattle.scales.specs.Scales.{tai_minus_gps}
use Rattle.tables.specs.Slots.{entries_of, valid_table}
use Rattle.tables.specs.Expiry.{stale_at}
use Rattle.conversions.specs.Conversions.{glonass_epoch}
use Rattle.conversions.specs.Shifted.{shifted_to_utc}
use Rattle.conversions.proofs.Dated.{then-dated}
use Rattle.conversions.proofs.by_table.ByTable.to_glonass.Goals as goal

pub returns : goal.returns
returns g c =
    let t = c.args.table in
    let count = g.Self.Scale.count c.args.self in
    let behind = g.Self.BehindGps.BEHIND_GPS_NS in
    c.on_scale.ensures ∙ c.glonass_from_utc.ensures
    ∙ then-dated (stale_at t.expiry (count + behind + tai_minus_gps)) (valid_table t)
    (shifted_to_utc behind (entries_of t) count)
    (rw (c.as_nanos.ensures, c.BEHIND_GPS_NS.ensures) at c.utc_from_shifted-utc.ensures) (down glonass_epoch)
