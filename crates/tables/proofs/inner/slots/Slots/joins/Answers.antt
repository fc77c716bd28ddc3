-- The list is that of the thresholds and offsets side by side.
use Rattle.std.proofs.Common.{ap, ◌∙◌}
use Rattle.tables.specs.Entries.{join_refusal}
use Rattle.tables.proofs.inner.slots.Slots.joins.Goals as goal

pub returns : goal.returns
returns c = c.joins.ensures ∙ ap (λ es. join_refusal es c.args.entry) c.self.view_is
