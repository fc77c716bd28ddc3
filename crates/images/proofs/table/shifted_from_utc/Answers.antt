-- The later of two counts is looked for where the first is before the epoch, and a refusal before is refused here.
use Rattle.std.proofs.Common.{ap, ◌∙◌}
use Rattle.refusals.specs.Outcome.{outcome_in}
use Rattle.images.proofs.FoundFirst.{by_later, none_found}
use Rattle.images.proofs.table.shifted_from_utc.Goals as goal

pub returns-in-Ok-answer : goal.returns-in-Ok-answer
returns-in-Ok-answer c =
    rw (← c.in-Ok.ensures)
    (c.shifted_by_later.ensures
    ∙ by_later c.in-Ok.image.bytes.now c.args.behind (outcome_in c.args.utc) c.gps_from_utc-found.ensures
    (ap outcome_in c.in-Ok-answer.is) c.if-gps-behind.true)

pub returns-in-Err : goal.returns-in-Err
returns-in-Err c =
    rw (← c.in-Ok.ensures)
    (c.new-in-Err.ensures
    ∙ none_found c.in-Ok.image.bytes.now c.args.behind (outcome_in c.args.utc) c.gps_from_utc-found.ensures
    (ap outcome_in c.in-Err.is))
