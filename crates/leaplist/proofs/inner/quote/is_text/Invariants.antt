-- `is_text`. The invariant: every byte is text where all before `i` are, and all from `i` on.
use Rattle.std.proofs.Common.{◌≡◌, ◌-◌, ◌≤◌, ◌&&◌, length, drop}
use Rattle.leaplist.specs.Report.{all_text}
use Rattle.leaplist.proofs.inner.quote.is_text.Given as goal

abbrev pub invariant-loop-i : goal.invariant-loop-i
invariant-loop-i l = (all_text l.s ≡ (l.all && all_text (drop l.i l.s))) × (l.i ≤ length l.s)

abbrev pub decreases-loop-i : goal.decreases-loop-i
decreases-loop-i l = length l.s - l.i
