-- The answer is read off the pass over the list.
use Rattle.std.proofs.Common.{◌∙◌}
use Rattle.lent.proofs.AnswersByPass.{current_read}
use Rattle.lent.proofs.current_tai_minus_utc.Goals as goal

pub returns : goal.returns
returns c = c.current.ensures ∙ current_read 0 c.args.entries.now c.over.result c.over.ensures
