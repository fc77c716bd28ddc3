-- The answer is read off the pass, where the bytes are a list.
use Rattle.std.proofs.Common.{false, ◌∙◌}
use Rattle.lent.proofs.AnswersByPass.{in_force_read}
use Rattle.images.proofs.list.tai_minus_utc_at.Goals as goal

pub returns-in-Ok : goal.returns-in-Ok
returns-in-Ok c =
    let read = in_force_read _ _ c.pass.result c.pass.ensures in
    rw (← c.in-Ok.ensures, c.in-Ok.list.whole) (c.in_force.ensures ∙ (λ i. (read i, false)))
