-- Each arm answers for its bucket, and no number is left for the last.
use Rattle.std.proofs.Common.{◌≡◌, sym, ap, ℕ}
use Rattle.builtin.specs.Reached.{count_reached, event_thresholds, events_before}
use Rattle.builtin.proofs.inner.lookup.events_before.Goals as goal

arm : (b n : ℕ) → b ≡ n → events_before n ≡ events_before b
arm b n e = ap events_before (sym e)

pub returns-in-0 : goal.returns-in-0
unfolding count_reached event_thresholds
returns-in-0 c = arm c.args.bucket 0 c.in-0.is

pub returns-in-1 : goal.returns-in-1
unfolding count_reached event_thresholds
returns-in-1 c = arm c.args.bucket 1 c.in-1.is

pub returns-in-2 : goal.returns-in-2
unfolding count_reached event_thresholds
returns-in-2 c = arm c.args.bucket 2 c.in-2.is

pub returns-in-3 : goal.returns-in-3
unfolding count_reached event_thresholds
returns-in-3 c = arm c.args.bucket 3 c.in-3.is

pub returns-in-4 : goal.returns-in-4
unfolding count_reached event_thresholds
returns-in-4 c = arm c.args.bucket 4 c.in-4.is

pub returns-in-5 : goal.returns-in-5
unfolding count_reached event_thresholds
returns-in-5 c = arm c.args.bucket 5 c.in-5.is

pub returns-in-6 : goal.returns-in-6
unfolding count_reached event_thresholds
returns-in-6 c = arm c.args.bucket 6 c.in-6.is

pub returns-in-7 : goal.returns-in-7
unfolding count_reached event_thresholds
returns-in-7 c = arm c.args.bucket 7 c.in-7.is

pub returns-in-8 : goal.returns-in-8
unfolding count_reached event_thresholds
returns-in-8 c = arm c.args.bucket 8 c.in-8.is

pub returns-in-9 : goal.returns-in-9
unfolding count_reached event_thresholds
returns-in-9 c = arm c.args.bucket 9 c.in-9.is

pub returns-in-10 : goal.returns-in-10
unfolding count_reached event_thresholds
returns-in-10 c = arm c.args.bucket 10 c.in-10.is

pub returns-in-11 : goal.returns-in-11
unfolding count_reached event_thresholds
returns-in-11 c = arm c.args.bucket 11 c.in-11.is

pub returns-in-12 : goal.returns-in-12
unfolding count_reached event_thresholds
returns-in-12 c = arm c.args.bucket 12 c.in-12.is

pub returns-in-13 : goal.returns-in-13
unfolding count_reached event_thresholds
returns-in-13 c = arm c.args.bucket 13 c.in-13.is

pub returns-in-14 : goal.returns-in-14
unfolding count_reached event_thresholds
returns-in-14 c = arm c.args.bucket 14 c.in-14.is

pub returns-in-15 : goal.returns-in-15
unfolding count_reached event_thresholds
returns-in-15 c = arm c.args.bucket 15 c.in-15.is

pub returns-in-16 : goal.returns-in-16
unfolding count_reached event_thresholds
returns-in-16 c = arm c.args.bucket 16 c.in-16.is

pub returns-in-17 : goal.returns-in-17
unfolding count_reached event_thresholds
returns-in-17 c = arm c.args.bucket 17 c.in-17.is

pub returns-in-18 : goal.returns-in-18
unfolding count_reached event_thresholds
returns-in-18 c = arm c.args.bucket 18 c.in-18.is

pub returns-in-19 : goal.returns-in-19
unfolding count_reached event_thresholds
returns-in-19 c = arm c.args.bucket 19 c.in-19.is

pub returns-in-20 : goal.returns-in-20
unfolding count_reached event_thresholds
returns-in-20 c = arm c.args.bucket 20 c.in-20.is

pub returns-in-21 : goal.returns-in-21
unfolding count_reached event_thresholds
returns-in-21 c = arm c.args.bucket 21 c.in-21.is

pub returns-in-22 : goal.returns-in-22
unfolding count_reached event_thresholds
returns-in-22 c = arm c.args.bucket 22 c.in-22.is

pub returns-in-23 : goal.returns-in-23
unfolding count_reached event_thresholds
returns-in-23 c = arm c.args.bucket 23 c.in-23.is

pub returns-in-24 : goal.returns-in-24
unfolding count_reached event_thresholds
returns-in-24 c = arm c.args.bucket 24 c.in-24.is

pub returns-in-25 : goal.returns-in-25
unfolding count_reached event_thresholds
returns-in-25 c = arm c.args.bucket 25 c.in-25.is

pub returns-in-26 : goal.returns-in-26
unfolding count_reached event_thresholds
returns-in-26 c = arm c.args.bucket 26 c.in-26.is

pub returns-in-27 : goal.returns-in-27
unfolding count_reached event_thresholds
returns-in-27 c = arm c.args.bucket 27 c.in-27.is

pub returns-in-28 : goal.returns-in-28
unfolding count_reached event_thresholds
returns-in-28 c = arm c.args.bucket 28 c.in-28.is

pub returns-in-29 : goal.returns-in-29
unfolding count_reached event_thresholds
returns-in-29 c = arm c.args.bucket 29 c.in-29.is

pub returns-in-30 : goal.returns-in-30
unfolding count_reached event_thresholds
returns-in-30 c = arm c.args.bucket 30 c.in-30.is

pub returns-in-31 : goal.returns-in-31
unfolding count_reached event_thresholds
returns-in-31 c = arm c.args.bucket 31 c.in-31.is
