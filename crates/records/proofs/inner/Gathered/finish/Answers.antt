-- The arrays where the verdict on the records is 0, and else the table with no entry.
use Rattle.std.proofs.Common.{sym, ap, ◌∙◌, arith}
use Rattle.refusals.specs.Number.{number_of}
use Rattle.refusals.proofs.Tells.{number_not_zero}
use Rattle.tables.specs.Answers.{taken_in}
use Rattle.records.proofs.Kept.{holds_refused, holds_finish}
use Rattle.records.proofs.inner.Gathered.finish.Goals as goal

pub returns-in-Err : goal.returns-in-Err
returns-in-Err c rs h =
    let why = c.in-Err.why in
    (λ i. (number_of why, c.new.ensures i))
    ∙ holds_refused _ c.args.expiry rs _ h _ (number_not_zero why) (sym (ap taken_in c.in-Err.is) ∙ c.verdict.ensures)

pub returns-in-Ok : goal.returns-in-Ok
returns-in-Ok c rs h =
    holds_finish (number_of c.args.none) c.args.expiry rs _ h _ c.expiry_nanos.ensures
    (omega (arith, number_not_zero c.args.none)) (sym (ap taken_in c.in-Ok.is) ∙ c.verdict.ensures)
