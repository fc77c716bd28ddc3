-- The answer is read off the pass, where the bytes are a list.
use Rattle.std.proofs.Common.{◌∙◌}
use Rattle.lent.proofs.AnswersByPass.{current_read}
use Rattle.images.proofs.list.current_tai_minus_utc.Goals as goal

pub returns : goal.returns
returns c =
    let list = c.in_ok-of in
    rw (← list.ensures, list.field-0.whole) (c.current.ensures ∙ current_read 0 _ c.pass.result c.pass.ensures)
