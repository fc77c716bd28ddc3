-- The answer is read off the pass over the list.
use Rattle.std.proofs.Common.{◌∙◌}
use Rattle.lent.proofs.AnswersByPass.{update_read}
use Rattle.lent.proofs.last_update.Goals as goal

pub returns : goal.returns
returns c = c.update.ensures ∙ update_read 0 c.args.entries.now c.over.result c.over.ensures
