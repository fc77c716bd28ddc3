-- `read`: its test is the definition's, and the fields of what passes it fit.
use Rattle.std.proofs.Common.{sym, ap, ◌∙◌}
use Rattle.refusals.specs.Outcome.{answered}
use Rattle.stamps.specs.Form.{stamp_read}
use Rattle.stamps.proofs.Fields.{fits, long}
use Rattle.stamps.proofs.read.Goals as goal

pub fields-requires-clause-s_len : goal.fields-requires-clause-s_len
fields-requires-clause-s_len c = long c.args.s.now (sym c.within.ensures ∙ c.if-within.true)

pub fields-requires-clause-fits : goal.fields-requires-clause-fits
fields-requires-clause-fits c = fits c.args.s.now (sym c.within.ensures ∙ c.if-within.true)

pub returns-then-within : goal.returns-then-within
unfolding stamp_read
returns-then-within c = rw (sym c.within.ensures ∙ c.if-within.true) (ap answered c.fields.ensures)

pub returns-else-within : goal.returns-else-within
unfolding stamp_read
returns-else-within c = rw (sym c.within.ensures ∙ c.if-within.false)
