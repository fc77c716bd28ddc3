-- `line_place`. The invariant: the line that is `left` before the one asked for begins at `at`.
use Rattle.std.proofs.Common.{◌≡◌, ◌-◌, ◌≤◌, length, drop}
use Rattle.texts.specs.Lines.{lines_of}
use Rattle.leaplist.proofs.inner.quote.line_place.Given as goal

abbrev pub invariant-loop-left : goal.invariant-loop-left
invariant-loop-left l =
    (lines_of (drop l.at l.s) ≡ drop (l.line - 1 - l.left) (lines_of l.s)) × (l.at ≤ length l.s) × (l.left ≤ l.line - 1)

abbrev pub decreases-loop-left : goal.decreases-loop-left
decreases-loop-left l = l.left
