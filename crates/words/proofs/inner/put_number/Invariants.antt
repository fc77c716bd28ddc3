-- `put_number` writes the lowest byte of what is left at each turn.
use Rattle.std.proofs.Common.{◌-◌, ◌≡◌, ◌++◌, take}
use Rattle.words.specs.Words.{bytes_of}
use Rattle.words.proofs.inner.put_number.Given as goal

abbrev pub invariant-loop-b : goal.invariant-loop-b
invariant-loop-b l =
    (take l.b-index l.b-items ++ bytes_of (l.width - l.b-index) l.rest ≡ bytes_of l.width l.n)
