-- `put_entries`. The invariant: the lines of the first `i` slots are written.
use Rattle.std.proofs.Common.{◌≡◌, ◌-◌, ◌≤◌, length}
use Rattle.tables.specs.Slots.{slots}
use Rattle.leaplist.specs.Report.{entry_lines}
use Rattle.leaplist.specs.Writing.{PutsAt}
use Rattle.leaplist.proofs.inner.put.put_entries.Given as goal

abbrev pub invariant-loop-i : goal.invariant-loop-i
invariant-loop-i l =
    PutsAt 0 (entry_lines (slots l.thresholds l.offsets l.i)) l.fn.out l.out l.end × (l.i ≤ l.n)
    × (length l.out ≡ length l.fn.out)

abbrev pub decreases-loop-i : goal.decreases-loop-i
decreases-loop-i l = l.n - l.i
