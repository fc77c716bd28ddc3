-- The threshold of the next event, and nothing after the last.
use Rattle.std.specs.Prelude.{None, Some}
use Rattle.std.specs.Bool.{then_some}
use Rattle.std.proofs.Common.{◌≡◌, sym, ap, ◌∙◌, ℕ, ◌≤◌, ◌<◌, arith}
use Rattle.std.proofs.Math.ListN.{drop_of_length-le}
use Rattle.std.proofs.Math.Seq.{drop-cons}
use native.Mathlib.Decide.{dec_lt}
use borrow.Author.Tests.{lt-ltb, le-ltb}
use lib.Dec.{ltb}
use Rattle.builtin.specs.Reached.{event_thresholds, first_of, event_at, event_after}
use Rattle.builtin.proofs.Counted.{eighteen}
use Rattle.builtin.proofs.inner.lookup.threshold_after.Goals as goal

there : (n : ℕ) → n < 18 → Some (event_at n) ≡ event_after n
there n l = sym (ap first_of (drop-cons event_thresholds n 0 (omega (arith, eighteen))))

past_all : (n : ℕ) → 18 ≤ n → None ≡ event_after n
past_all n l = sym (ap first_of (drop_of_length-le event_thresholds {i = n} (omega (arith, eighteen))))

next : (n : ℕ) → then_some (ltb n 18) (event_at n) ≡ event_after n
next n = by_order (dec_lt n 18)
  where
    by_order : Dec (n < 18) → then_some (ltb n 18) (event_at n) ≡ event_after n
    by_order (yes h) = rw (lt-ltb n 18 h) (there n h)
    by_order (no h) = rw (le-ltb n 18 (omega (arith, h))) (past_all n (omega (arith, h)))

pub returns : goal.returns
returns c =
    c.then_some.ensures ∙ ap (then_some (ltb c.args.events 18)) c.event_threshold.ensures ∙ next c.args.events
