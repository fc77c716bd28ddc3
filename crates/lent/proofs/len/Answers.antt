-- The answer is read off the pass over the list.
use Rattle.std.proofs.Common.{◌∙◌}
use Rattle.lent.proofs.AnswersByPass.{length_read}
use Rattle.lent.proofs.len.Goals as goal

pub returns : goal.returns
returns c = c.length.ensures ∙ length_read 0 c.args.entries.now c.over.result c.over.ensures
