-- The entries that are left have the first refusal of all.
use Rattle.std.proofs.Common.{◌≡◌, ◌-◌, true, eqb, sym, ◌∙◌, rules}
use Rattle.std.proofs.lemmas.Result.{err_from_is_err_and}
use Rattle.refusals.proofs.Tells.{number_not_zero}
use Rattle.tables.specs.Entries.{step_refusal, first_refusal, valid}
use Rattle.tables.specs.Slots.{paired, slots, slot_at}
use Rattle.tables.specs.Answers.{taken_in}
use Rattle.tables.proofs.FirstSlots.{whole}
use Rattle.tables.proofs.Scanned.{goes_on, stops, passed}
use Rattle.tables.proofs.inner.first_refusal.Goals as goal
use Rattle.tables.proofs.inner.first_refusal.Goals.{After-from_residual, After-loop-i}

stopped : (c : After-from_residual)
    → (taken_in c.from_residual.result ≡ first_refusal (paired c.args.thresholds.now c.args.offsets.now))
    × (eqb (taken_in c.from_residual.result) 0 ≡ valid (paired c.args.thresholds.now c.args.offsets.now))
stopped c =
    let xs = c.args.thresholds.now in
    let zs = c.args.offsets.now in
    let all : slots xs zs c.min-n.result ≡ paired xs zs = rw c.min-n.ensures (whole xs zs) in
    let before : c.new-before.result ≡ slot_at xs zs (c.loop-i.i - 1) = search rules in
    let next : c.new-next.result ≡ slot_at xs zs c.loop-i.i = search rules in
    let p = err_from_is_err_and c.from_residual.result c.from_residual.ensures.1 in
    rw (p.1, p.2, ← all)
    (stops _ _ _ _ c.loop-i.auto.i (search rules) (search rules) (search rules) _
    (c.in_err-step.ensures ∙ (λ j. step_refusal (before j) (next j)))
    c.loop-i.invariant (search rules) (number_not_zero c.in_err-step.field-0.0))

pub returns-in_err-step-clause-first : goal.returns-in_err-step-clause-first
returns-in_err-step-clause-first c = (stopped c).0

pub returns-in_err-step-clause-tells : goal.returns-in_err-step-clause-tells
returns-in_err-step-clause-tells c = (stopped c).1

pub loop-i-preserved : goal.loop-i-preserved
loop-i-preserved c =
    let before : c.new-before.result ≡ slot_at c.args.thresholds.now c.args.offsets.now (c.loop-i.i - 1) = search rules in
    let next : c.new-next.result ≡ slot_at c.args.thresholds.now c.args.offsets.now c.loop-i.i = search rules in
    goes_on _ _ _ _ c.loop-i.auto.i (search rules) (search rules) (search rules) _
    (λ j. step_refusal (before j) (next j))
    c.loop-i.invariant (sym c.in_ok-step.ensures)

passed_all : (c : After-loop-i)
    → (0 ≡ first_refusal (paired c.args.thresholds.now c.args.offsets.now))
    × (true ≡ valid (paired c.args.thresholds.now c.args.offsets.now))
passed_all c =
    let xs = c.args.thresholds.now in
    let zs = c.args.offsets.now in
    let all : slots xs zs c.min-n.result ≡ paired xs zs = rw c.min-n.ensures (whole xs zs) in
    rw (← all) (passed _ _ _ _ c.loop-i-test.false (search rules) (search rules) c.loop-i.invariant)

pub returns-clause-first : goal.returns-clause-first
returns-clause-first c = (passed_all c).0

pub returns-clause-tells : goal.returns-clause-tells
returns-clause-tells c = (passed_all c).1
