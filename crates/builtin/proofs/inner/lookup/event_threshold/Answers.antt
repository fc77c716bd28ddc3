-- The list of the thresholds, one by one, and 0 past its end.
use Rattle.std.proofs.Common.{◌≡◌, sym, ap, ℕ, ◌≤◌, arith}
use Rattle.std.proofs.Math.ListN.{get_or-eq_default}
use Rattle.builtin.specs.Reached.{event_thresholds, event_at}
use Rattle.builtin.proofs.Counted.{eighteen}
use Rattle.builtin.proofs.inner.lookup.event_threshold.Goals as goal

arm : (e n : ℕ) → e ≡ n → event_at n ≡ event_at e
arm e n h = ap event_at (sym h)

past_all : (n : ℕ) → 19 ≤ n → 0 ≡ event_at n
past_all n l = sym (get_or-eq_default event_thresholds 0 {n = n} (omega (arith, eighteen)))

pub returns-in-0 : goal.returns-in-0
unfolding event_thresholds
returns-in-0 c = arm c.args.event 0 c.in-0.is

pub returns-in-1 : goal.returns-in-1
unfolding event_thresholds
returns-in-1 c = arm c.args.event 1 c.in-1.is

pub returns-in-2 : goal.returns-in-2
unfolding event_thresholds
returns-in-2 c = arm c.args.event 2 c.in-2.is

pub returns-in-3 : goal.returns-in-3
unfolding event_thresholds
returns-in-3 c = arm c.args.event 3 c.in-3.is

pub returns-in-4 : goal.returns-in-4
unfolding event_thresholds
returns-in-4 c = arm c.args.event 4 c.in-4.is

pub returns-in-5 : goal.returns-in-5
unfolding event_thresholds
returns-in-5 c = arm c.args.event 5 c.in-5.is

pub returns-in-6 : goal.returns-in-6
unfolding event_thresholds
returns-in-6 c = arm c.args.event 6 c.in-6.is

pub returns-in-7 : goal.returns-in-7
unfolding event_thresholds
returns-in-7 c = arm c.args.event 7 c.in-7.is

pub returns-in-8 : goal.returns-in-8
unfolding event_thresholds
returns-in-8 c = arm c.args.event 8 c.in-8.is

pub returns-in-9 : goal.returns-in-9
unfolding event_thresholds
returns-in-9 c = arm c.args.event 9 c.in-9.is

pub returns-in-10 : goal.returns-in-10
unfolding event_thresholds
returns-in-10 c = arm c.args.event 10 c.in-10.is

pub returns-in-11 : goal.returns-in-11
unfolding event_thresholds
returns-in-11 c = arm c.args.event 11 c.in-11.is

pub returns-in-12 : goal.returns-in-12
unfolding event_thresholds
returns-in-12 c = arm c.args.event 12 c.in-12.is

pub returns-in-13 : goal.returns-in-13
unfolding event_thresholds
returns-in-13 c = arm c.args.event 13 c.in-13.is

pub returns-in-14 : goal.returns-in-14
unfolding event_thresholds
returns-in-14 c = arm c.args.event 14 c.in-14.is

pub returns-in-15 : goal.returns-in-15
unfolding event_thresholds
returns-in-15 c = arm c.args.event 15 c.in-15.is

pub returns-in-16 : goal.returns-in-16
unfolding event_thresholds
returns-in-16 c = arm c.args.event 16 c.in-16.is

pub returns-in-17 : goal.returns-in-17
unfolding event_thresholds
returns-in-17 c = arm c.args.event 17 c.in-17.is

pub returns-in-18 : goal.returns-in-18
unfolding event_thresholds
returns-in-18 c = arm c.args.event 18 c.in-18.is

pub returns-in_default : goal.returns-in_default
returns-in_default c = past_all c.args.event (omega arith)
