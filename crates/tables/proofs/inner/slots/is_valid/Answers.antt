-- At most 64 slots, which are cut to a list without a refusal.
use Rattle.std.proofs.Common.{◌≡◌, eqb, ◌∙◌}
use borrow.Author.Tests.{le-leb}
use Rattle.tables.proofs.Laid.{cut}
use Rattle.tables.specs.Answers.{taken_in}
use Rattle.tables.specs.Entries.{valid}
use Rattle.tables.specs.Slots.{entries_of}
use Rattle.tables.proofs.Tells.{done_told}
use Rattle.tables.proofs.inner.slots.is_valid.Goals as goal

pub returns-then-n-le-RUNTIME_CAPACITY : goal.returns-then-n-le-RUNTIME_CAPACITY
returns-then-n-le-RUNTIME_CAPACITY c =
    let t = c.args.table.now in
    let tells : eqb (taken_in c.first_refusal.result) 0 ≡ valid (entries_of t) = rw (cut t.len t.thresholds t.offsets) at c.first_refusal.ensures.tells in
    c.is_ok.ensures.value ∙ done_told c.first_refusal.result ∙ tells
    ∙ rw (le-leb t.len 64 c.if-n-le-RUNTIME_CAPACITY.true)
