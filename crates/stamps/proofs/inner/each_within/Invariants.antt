-- `each_within`. The invariant: all bytes are within where those before `i` are, and those from `i` on.
use Rattle.std.proofs.Common.{◌≡◌, ◌&&◌, drop}
use Rattle.stamps.specs.Form.{within}
use Rattle.stamps.proofs.inner.each_within.Given as goal

abbrev pub invariant-loop-i : goal.invariant-loop-i
invariant-loop-i l = within l.low l.high l.s ≡ (l.inside && within (drop l.i l.low) (drop l.i l.high) (drop l.i l.s))
