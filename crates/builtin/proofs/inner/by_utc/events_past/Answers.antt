-- The events before the count's bucket, and the next one if the count is a second past it.
use Rattle.std.proofs.Common.{arith}
use Rattle.builtin.specs.Reached.{past_events}
use Rattle.builtin.proofs.Buckets.{utc_start, by_utc_lem, eighteen_past, few, found}
use Rattle.builtin.proofs.inner.by_utc.events_past.Goals as goal

pub past_event-requires : goal.past_event-requires
past_event-requires c =
    rw eighteen_past at (few past_events utc_start by_utc_lem c.args.utc _ _
    c.bucket_of.ensures c.events_before-before.ensures)

pub overflow_add-result : goal.overflow_add-result
overflow_add-result c =
    let before = rw eighteen_past at (few past_events utc_start by_utc_lem c.args.utc _ _
    c.bucket_of.ensures c.events_before-before.ensures) in
    omega arith

pub returns-clause-is : goal.returns-clause-is
returns-clause-is c =
    found past_events utc_start by_utc_lem c.args.utc _ _ c.bucket_of.ensures c.events_before-before.ensures
    _ _ c.past_event.ensures c.reached.ensures.is

pub returns-clause-few : goal.returns-clause-few
returns-clause-few c =
    let before = rw eighteen_past at (few past_events utc_start by_utc_lem c.args.utc _ _
    c.bucket_of.ensures c.events_before-before.ensures) in
    omega arith
