-- The answer is read off the pass over the list.
use Rattle.std.proofs.Common.{◌∙◌}
use Rattle.lent.proofs.AnswersByPass.{emptiness_read}
use Rattle.lent.proofs.is_empty.Goals as goal

pub returns : goal.returns
returns c = c.emptiness.ensures ∙ emptiness_read 0 c.args.entries.now c.over.result c.over.ensures
