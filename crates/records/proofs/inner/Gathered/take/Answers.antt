-- A record that is kept is stored in the slot past the entries before it, where there is room: so the arrays hold what
-- is kept.
use Rattle.std.proofs.Common.{◌≡◌, w32, to_z, of_z, arith, rules}
use Rattle.records.proofs.Kept.{holds_next_unkept, holds_next_full, holds-next}
use Rattle.records.proofs.inner.Gathered.take.Goals as goal

pub returns-then-count-eq0-clause-holds : goal.returns-then-count-eq0-clause-holds
returns-then-count-eq0-clause-holds c rs h =
    holds_next_unkept rs _ _ _ h c.next-seen.ensures c.if-count-eq0.true

pub returns-then-count-gt-RUNTIME_CAPACITY-clause-holds :
    goal.returns-then-count-gt-RUNTIME_CAPACITY-clause-holds
returns-then-count-gt-RUNTIME_CAPACITY-clause-holds c rs h =
    holds_next_full rs _ _ _ h c.next-seen.ensures c.if-count-gt-RUNTIME_CAPACITY.true

pub returns-clause-holds : goal.returns-clause-holds
returns-clause-holds c rs h =
    let q = c.next-seen.result in
    let back : to_z w32 (of_z w32 q.last.offset) ≡ q.last.offset = search rules in
    let some = c.if-count-eq0.false in
    rw back
    (holds-next rs _ _ _ h c.next-seen.ensures (omega arith) c.if-count-gt-RUNTIME_CAPACITY.false)
