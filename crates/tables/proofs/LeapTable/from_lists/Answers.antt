-- The answer and the table of a building, by the first refusal.
use Rattle.std.proofs.Common.{sym, ap, ◌∙◌}
use Rattle.refusals.proofs.Tells.{number_not_zero}
use Rattle.tables.specs.Answers.{taken_in}
use Rattle.tables.specs.Slots.{table_of}
use Rattle.tables.proofs.Laid.{cut}
use Rattle.tables.proofs.Growing.{nothing_given, too_many_given, entry_refused, all_taken}
use Rattle.tables.proofs.LeapTable.from_lists.Goals as goal

pub returns-then-n-eq0 : goal.returns-then-n-eq0
returns-then-n-eq0 c = c.unbuilt.ensures ∙ nothing_given _ _ _ c.min-n.ensures c.if-n-eq0.true

pub returns-then-n-gt-RUNTIME_CAPACITY : goal.returns-then-n-gt-RUNTIME_CAPACITY
returns-then-n-gt-RUNTIME_CAPACITY c =
    c.unbuilt-then-n-gt-RUNTIME_CAPACITY.ensures
    ∙ too_many_given _ _ _ c.min-n.ensures c.if-n-gt-RUNTIME_CAPACITY.true

pub returns-in-Err : goal.returns-in-Err
returns-in-Err c =
    let judged = rw (cut c.min-n.result c.args.thresholds.now c.args.offsets.now) at c.first_refusal.ensures.first in
    c.unbuilt-in-Err.ensures
    ∙ entry_refused _ _ _ c.min-n.ensures c.if-n-eq0.false c.if-n-gt-RUNTIME_CAPACITY.false _
    (number_not_zero c.in-Err.why) (sym (ap taken_in c.in-Err.is) ∙ judged)

pub returns-in-Ok : goal.returns-in-Ok
returns-in-Ok c =
    let all = cut c.min-n.result c.args.thresholds.now c.args.offsets.now in
    let judged = rw all at c.first_refusal.ensures.first in
    c.done.ensures ∙ (λ j. (0, (c.table_of.ensures ∙ ap table_of all) j))
    ∙ all_taken _ _ _ c.min-n.ensures c.if-n-eq0.false c.if-n-gt-RUNTIME_CAPACITY.false
    (sym (ap taken_in c.in-Ok.is) ∙ judged)
