-- The answer is read off the pass over the list.
use Rattle.std.proofs.Common.{◌∙◌}
use Rattle.lent.proofs.AnswersByPass.{check_read}
use Rattle.lent.proofs.try_from_slice.Goals as goal

pub returns : goal.returns
returns c = c.check.ensures ∙ check_read 0 c.args.entries.now c.over.result c.over.ensures
