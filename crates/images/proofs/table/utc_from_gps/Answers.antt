-- One checked lookup, at the TAI reading.
use Rattle.std.proofs.Common.{◌+◌, sym, ap, ◌∙◌}
use Rattle.refusals.specs.Outcome.{value_in, then, outcome_in}
use Rattle.counts.specs.Exact.{up}
use Rattle.scales.specs.Scales.{tai_minus_gps}
use Rattle.tables.specs.Slots.{entries_of}
use Rattle.tables.specs.Expiry.{stale_at, dated}
use Rattle.conversions.specs.Conversions.{gps_to_utc}
use Rattle.conversions.proofs.ByLookup.{utc_from_store}
use Rattle.conversions.proofs.Dated.{at_gps}
use Rattle.images.specs.Image.{table_in}
use Rattle.images.proofs.Held.{holds, one_test}
use Rattle.images.proofs.Dated.{in_one}
use Rattle.images.proofs.table.utc_from_gps.Goals as goal

pub returns : goal.returns
returns c =
    let a = c.args in
    let b = c.in-Ok.image.bytes.now in
    let es = entries_of (table_in b) in
    let gps = outcome_in a.gps in
    let first = value_in 0 (then gps (up tai_minus_gps)) in
    let counts = c.utc_from_lookup.ensures
    ∙ utc_from_store (holds b) es gps c.tai_of-tai.ensures c.reading_of-reading.ensures
    (c.checked_look_up-found.ensures ∙ one_test b _)
    ∙ sym (one_test b _) in
    let reads = c.is_stale-stale.ensures
    ∙ (λ i. stale_at (c.expiry.ensures i) ((c.reading_of-reading.ensures ∙ ap (value_in 0) c.tai_of-tai.ensures) i)) in
    rw (← c.in-Ok.ensures)
    (c.new-2.ensures ∙ (λ i. dated (reads i) (counts i))
    ∙ in_one b (λ es. first) (λ es. then gps (gps_to_utc es))
    ∙ at_gps (table_in b).expiry (holds b) es gps
    ∙ sym (in_one b (λ es. value_in 0 gps + tai_minus_gps) (λ es. then gps (gps_to_utc es))))
