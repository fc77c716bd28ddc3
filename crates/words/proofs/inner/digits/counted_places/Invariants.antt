-- `counted_places`. The invariant: `more` digits are taken off, and the places of the rest are those that are left.
use Rattle.std.proofs.Common.{◌+◌, ◌-◌, ◌^◌, ◌≡◌, ◌≤◌, ◌<◌}
use Rattle.words.specs.Decimal.{places_up_to}
use Rattle.words.proofs.inner.digits.counted_places.Given as goal

abbrev pub invariant-loop-rest : goal.invariant-loop-rest
invariant-loop-rest l =
    (places_up_to 20 l.n ≡ l.more + places_up_to (20 - l.more) l.rest) × (l.rest < 10 ^ (20 - l.more)) × (l.more ≤ 19)

abbrev pub decreases-loop-rest : goal.decreases-loop-rest
decreases-loop-rest l = l.rest
