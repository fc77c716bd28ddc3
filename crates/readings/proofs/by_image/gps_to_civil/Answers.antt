-- One lookup, at the TAI reading, which tests the table in the image.
use Rattle.std.proofs.Common.{◌≡◌, sym, ap, ◌∙◌, false, true, ◌+◌}
use Rattle.refusals.specs.Outcome.{value_in}
use Rattle.scales.specs.Scales.{tai_minus_gps}
use Rattle.tables.specs.Entries.{on_days, lookup}
use Rattle.tables.specs.Expiry.{stale_at, dated}
use Rattle.images.specs.Image.{table_in}
use Rattle.images.proofs.Held.{told_held}
use Rattle.images.proofs.Dated.{es}
use Rattle.readings.specs.Readings.{gps_to_civil}
use Rattle.readings.proofs.ByImage.{looked_up, not_told, by_held}
use Rattle.readings.proofs.ByLookup.{read_by}
use Rattle.readings.proofs.StaleAt.{at_count}
use Rattle.readings.proofs.by_image.gps_to_civil.Goals as goal

pub returns-then-not-is_on_days : goal.returns-then-not-is_on_days
returns-then-not-is_on_days c =
    let b = c.in-Ok.image.bytes.now in
    let k = told_held b _ c.in-Ok-checked_look_up.ensures in
    let off : on_days (es b) ≡ false = sym c.is_on_days.ensures ∙ c.if-not-is_on_days.true in
    rw (← c.in-Ok.ensures)
    (c.new-then-not-is_on_days.ensures
    ∙ by_held b (λ es. c.args.gps.0 + tai_minus_gps) (λ es. gps_to_civil es c.args.gps.0) k (rw off))

pub returns-else-not-is_on_days : goal.returns-else-not-is_on_days
returns-else-not-is_on_days c =
    let b = c.in-Ok.image.bytes.now in
    let gps = c.args.gps.0 in
    let k = told_held b _ c.in-Ok-checked_look_up.ensures in
    let on : on_days (es b) ≡ true = sym c.is_on_days.ensures ∙ c.if-not-is_on_days.false in
    let x = (table_in b).expiry in
    let fields = c.read.ensures
    ∙ read_by (es b) on gps c.tai_of-tai.ensures c.reading_of-reading.ensures
    (looked_up b (lookup (es b) c.reading_of-reading.result) c.in-Ok-checked_look_up.ensures) in
    let reads = c.is_stale-stale.ensures
    ∙ (λ i. stale_at (c.expiry.ensures i)
    ((c.reading_of-reading.ensures ∙ ap (value_in 0) c.tai_of-tai.ensures) i)) in
    rw (← c.in-Ok.ensures)
    (c.new-in-Ok-checked_look_up.ensures
    ∙ by_held b (λ es. gps + tai_minus_gps) (λ es. gps_to_civil es gps) k
    ((λ i. dated (reads i) (fields i)) ∙ at_count x (es b) gps on))

pub returns-in-Err : goal.returns-in-Err
returns-in-Err c =
    rw (← c.in-Ok.ensures)
    (c.new-in-Err.ensures
    ∙ not_told c.in-Ok.image.bytes.now (λ es. c.args.gps.0 + tai_minus_gps) (λ es. gps_to_civil es c.args.gps.0) _ c.in-Err.ensures)
