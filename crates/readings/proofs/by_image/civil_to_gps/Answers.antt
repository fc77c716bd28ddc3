-- A lookup that tests the table in the image; then the first GPS count that has the fields' UTC count, and a lookup at its
-- TAI reading.
use Rattle.std.proofs.Common.{◌≡◌, sym, ap, ◌∙◌, false, true, cond, ℕ, ◌+◌}
use Rattle.refusals.specs.Outcome.{Outcome, refused, value_in, then, outcome_in}
use Rattle.counts.specs.Exact.{up}
use Rattle.scales.specs.Scales.{tai_minus_gps}
use Rattle.civil.specs.Real.{of_real}
use Rattle.tables.specs.Entries.{on_days}
use Rattle.tables.specs.Expiry.{stale_at, dated}
use Rattle.conversions.specs.Conversions.{utc_to_gps}
use Rattle.conversions.proofs.ByLookup.{gps_from_store}
use Rattle.images.specs.Image.{table_in}
use Rattle.images.proofs.Held.{holds, one_test, told_held}
use Rattle.images.proofs.Dated.{es}
use Rattle.readings.specs.Readings.{civil_to_gps}
use Rattle.readings.proofs.ByImage.{not_told, by_held}
use Rattle.readings.proofs.ByLookup.{back_by, has_reading}
use Rattle.readings.proofs.StaleAt.{at-answer}
use Rattle.readings.proofs.by_image.civil_to_gps.Goals as goal

pub returns-then-not-is_on_days : goal.returns-then-not-is_on_days
returns-then-not-is_on_days c =
    let b = c.in-Ok.image.bytes.now in
    let off : on_days (es b) ≡ false = sym c.is_on_days.ensures ∙ c.if-not-is_on_days.true in
    rw (← c.in-Ok.ensures)
    (c.new-then-not-is_on_days.ensures
    ∙ by_held b (λ es. value_in 0 (civil_to_gps es c.args.fields) + tai_minus_gps) (λ es. civil_to_gps es c.args.fields)
    (told_held b _ c.in-Ok-checked_look_up.ensures) (rw off))

pub returns-else-not-is_on_days : goal.returns-else-not-is_on_days
returns-else-not-is_on_days c =
    let b = c.in-Ok.image.bytes.now in
    let fields = c.args.fields in
    let k = told_held b _ c.in-Ok-checked_look_up.ensures in
    let on : on_days (es b) ≡ true = sym c.is_on_days.ensures ∙ c.if-not-is_on_days.false in
    let x = (table_in b).expiry in
    let count = outcome_in c.to_utc_nanos-utc.result in
    let first_is = c.gps_from_lookup-first.ensures
    ∙ gps_from_store (holds b) (es b) count c.first_reading_of-a.ensures
    (c.in-Ok-checked_look_up.ensures ∙ one_test b _) c.last_reading_of-b.ensures c.look_up.ensures
    ∙ ap (λ v. cond v (then count (utc_to_gps (es b))) (refused 8)) k.passes in
    let of_fields = c.back.ensures
    ∙ back_by (es b) on fields c.to_utc_nanos-utc.ensures first_is
    (c.reading_of.ensures ∙ ap (value_in 0) c.tai_of.ensures) c.look_up-found.ensures in
    let counts : outcome_in c.if_real-gps.result ≡ civil_to_gps (es b) fields
    = rw on (c.if_real-gps.ensures ∙ ap (of_real fields) of_fields) in
    let tai_is = c.tai_of-in-Ok-checked_look_up.ensures ∙ ap (λ (o : Outcome ℕ). then o (up tai_minus_gps)) counts in
    let reads = c.is_stale-stale.ensures
    ∙ (λ i. stale_at (c.expiry.ensures i)
    ((c.reading_of-in-Ok-checked_look_up.ensures ∙ ap (value_in 0) tai_is) i)) in
    rw (← c.in-Ok.ensures)
    (c.new-in-Ok-checked_look_up.ensures
    ∙ by_held b (λ es. value_in 0 (civil_to_gps es fields) + tai_minus_gps) (λ es. civil_to_gps es fields) k
    ((λ i. dated (reads i) (counts i)) ∙ at-answer x (civil_to_gps (es b) fields) (has_reading (es b) on fields)))

pub returns-in-Err : goal.returns-in-Err
returns-in-Err c =
    rw (← c.in-Ok.ensures)
    (c.new-in-Err.ensures
    ∙ not_told c.in-Ok.image.bytes.now (λ es. value_in 0 (civil_to_gps es c.args.fields) + tai_minus_gps)
    (λ es. civil_to_gps es c.args.fields) _ c.in-Err.ensures)
