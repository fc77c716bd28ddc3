-- The counts are those of the list, and fit, by a test that is computed for all eighteen.
use Rattle.std.proofs.Common.{◌≡◌, Bool, ◌&&◌, ℕ, ◌+◌, ◌-◌, ◌*◌, ◌^◌, ◌≤◌, ◌<◌, arith, leb, eqb}
use lib.Dec.{T, leb→le, eqb→eq}
use mir.Facts.{and_yes}
use Rattle.counts.specs.Units.{second}
use Rattle.calendar.proofs.Tested.{at}
use Rattle.builtin.specs.Reached.{event_thresholds, event_at, past_events, past_at}
use Rattle.builtin.proofs.inner.by_utc.past_event.Goals as goal

abbrev past : ℕ → ℕ
past n = event_at n + 252_892_781 * second - n * second

abbrev right : ℕ → Bool
right n = leb (event_at n) (2 ^ 63) && eqb (past n) (past_at n)

tested : (n : ℕ) → n < 18 → T (leb (event_at n) (2 ^ 63)) × T (eqb (past n) (past_at n))
unfolding event_thresholds past_events
tested n h = and_yes (leb (event_at n) (2 ^ 63)) (eqb (past n) (past_at n)) (at right 18 tt n h)

fits : (n : ℕ) → n < 18 → event_at n ≤ 2 ^ 63
fits n h = leb→le (event_at n) (2 ^ 63) (tested n h).0

is : (n : ℕ) → n < 18 → past n ≡ past_at n
is n h = eqb→eq (past n) (past_at n) (tested n h).1

pub overflow_add-result : goal.overflow_add-result
overflow_add-result c = omega (arith, c.event_threshold.ensures, fits c.args.event c.requires)

pub returns : goal.returns
returns c = rw c.event_threshold.ensures (is c.args.event c.requires)
