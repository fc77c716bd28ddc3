-- The last entry judges the next, where there is one and room for another.
use Rattle.std.proofs.Common.{◌≡◌, ◌-◌, arith, length, rules, sym}
use Rattle.tables.specs.Slots.{paired, slot_at}
use Rattle.tables.proofs.FirstSlots.{paired_length}
use Rattle.tables.proofs.Joining.{nothing_yet, full, by_last, last_of_two}
use Rattle.tables.proofs.inner.joins.Goals as goal

pub returns-then-n-eq0 : goal.returns-then-n-eq0
returns-then-n-eq0 c =
    let none : length (paired c.args.thresholds.now c.args.offsets.now) ≡ 0 =
    omega (arith, paired_length c.args.thresholds.now c.args.offsets.now, c.min-n.ensures, c.if-n-eq0.true) in
    sym (nothing_yet _ c.args.entry none)

pub returns-then-n-ge-RUNTIME_CAPACITY : goal.returns-then-n-ge-RUNTIME_CAPACITY
returns-then-n-ge-RUNTIME_CAPACITY c =
    let xs = c.args.thresholds.now in
    let zs = c.args.offsets.now in
    let n = c.min-n.result in
    sym (full (slot_at xs zs (n - 1)) _ c.args.entry
    (last_of_two xs zs n c.min-n.ensures (omega (arith, c.if-n-eq0.false)))
    (omega (arith, paired_length xs zs, c.min-n.ensures, c.if-n-ge-RUNTIME_CAPACITY.true)))

pub returns : goal.returns
returns c =
    let xs = c.args.thresholds.now in
    let zs = c.args.offsets.now in
    let n = c.min-n.result in
    let last : c.new-last.result ≡ slot_at xs zs (n - 1) = search rules in
    rw (c.step.ensures, last)
    (sym (by_last (slot_at xs zs (n - 1)) _ c.args.entry
    (last_of_two xs zs n c.min-n.ensures (omega (arith, c.if-n-eq0.false)))
    (omega (arith, paired_length xs zs, c.min-n.ensures, c.if-n-ge-RUNTIME_CAPACITY.false))))
