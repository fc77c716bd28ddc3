-- The answer is read off the pass over the list. It is never stale.
use Rattle.std.proofs.Common.{false, ◌∙◌}
use Rattle.lent.proofs.AnswersByPass.{in_force_read}
use Rattle.lent.proofs.tai_minus_utc_at.Goals as goal

pub returns : goal.returns
returns c =
    let told = in_force_read c.args.tai.0 c.args.entries.now c.over.result c.over.ensures in
    c.in_force.ensures ∙ (λ i. (told i, false))
