-- One lookup, at the TAI reading.
use Rattle.std.proofs.Common.{refl, ap, ◌∙◌, true}
use Rattle.refusals.specs.Outcome.{answered, outcome_in}
use Rattle.conversions.proofs.ByLookup.{utc_from_store}
use Rattle.builtin.specs.Builtin.{builtin}
use Rattle.builtin.proofs.inner.lookup.utc_from_gps.Goals as goal

pub returns : goal.returns
returns c =
    c.utc_from_lookup.ensures
    ∙ utc_from_store true builtin (outcome_in c.args.gps) c.in_ok-reading.ensures refl
    (ap answered (c.entry_told-told.ensures ∙ c.event_at.ensures.is))
