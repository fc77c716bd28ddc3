-- The number of events that the reading has passed tells the entry.
use Rattle.std.proofs.Common.{sym, ap, ◌∙◌, arith}
use Rattle.builtin.specs.Reached.{event_thresholds, told_at, bucket}
use Rattle.builtin.proofs.Counted.{counted, eighteen}
use Rattle.builtin.proofs.Buckets.{by_tai, few, found}
use Rattle.builtin.proofs.inner.lookup.event_at.Goals as goal

pub overflow_add-result : goal.overflow_add-result
overflow_add-result c =
    let before = rw eighteen at (few event_thresholds bucket by_tai c.args.tai _ _
    c.bucket_of.ensures c.events_before-before.ensures) in
    omega arith

pub returns-clause-is : goal.returns-clause-is
returns-clause-is c =
    let sum = found event_thresholds bucket by_tai c.args.tai _ _ c.bucket_of.ensures c.events_before-before.ensures
    _ _ c.event_threshold.ensures c.reached.ensures.is in
    ap told_at sum ∙ sym (counted c.args.tai)

pub returns-clause-few : goal.returns-clause-few
returns-clause-few c =
    let before = rw eighteen at (few event_thresholds bucket by_tai c.args.tai _ _
    c.bucket_of.ensures c.events_before-before.ensures) in
    omega arith
