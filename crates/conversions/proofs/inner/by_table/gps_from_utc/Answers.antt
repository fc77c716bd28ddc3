-- A checked lookup at the first reading, and a lookup in the same table, now known to be valid, at the last.
use Rattle.std.proofs.Common.{sym, ap, ◌∙◌}
use Rattle.refusals.specs.Outcome.{outcome_in}
use Rattle.tables.specs.Slots.{entries_of, valid_table}
use Rattle.tables.specs.Expiry.{dated}
use Rattle.conversions.proofs.ByLookup.{gps_from_store}
use Rattle.conversions.proofs.Dated.{at-utc}
use Rattle.conversions.proofs.inner.by_table.gps_from_utc.Goals as goal

pub returns-in-Ok : goal.returns-in-Ok
returns-in-Ok c =
    let a = c.args in
    let v = valid_table a.table in
    let es = entries_of a.table in
    let fa = c.first_reading_of-a.ensures in
    let told = sym (ap outcome_in c.in-Ok.is) ∙ c.checked_look_up.ensures in
    let counts = c.gps_from_lookup.ensures
    ∙ gps_from_store v es (outcome_in a.utc) fa told c.last_reading_of-b.ensures
    (rw c.of_valid.ensures at c.look_up-found.ensures) in
    c.new.ensures ∙ (λ i. dated (c.is_stale-stale.ensures i) (counts i))
    ∙ at-utc a.table.expiry v es (outcome_in a.utc) fa told c.last_reading_of-b.ensures
