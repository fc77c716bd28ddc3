-- A text written at a place, and then another from where it ends.
use mathlib.Core.List.{List, ◌++◌}
use Prim.Native.Nat.{ℕ}
use native.Mathlib.Omega.{arith}
use lib.ListN.{length-append}
use Rattle.words.proofs.Stores.{joined}
use Rattle.lines.specs.OutcomeLine.{Puts}
use Rattle.leaplist.specs.Writing.{PutsAt}

pub then_puts : {x y : List ℕ} {p q : ℕ} (out : List ℕ) (at : ℕ) (vs ws : List ℕ) → PutsAt at vs out x p
    → PutsAt p ws x y q → PutsAt at (vs ++ ws) out y q
then_puts {p = p} out at vs ws first second =
    (omega (arith, length-append vs ws), joined out at p vs ws first.1 first.0 second.1)

-- at the start
pub from_start : {y : List ℕ} {q : ℕ} (out text : List ℕ) → PutsAt 0 text out y q → Puts text out y q
from_start out text put = (omega arith, put.1)
