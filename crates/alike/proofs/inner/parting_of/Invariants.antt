-- The entries that are left part where all do.
use Rattle.std.proofs.Common.{◌≡◌, drop}
use Rattle.alike.specs.Alike.{parting}
use Rattle.alike.proofs.inner.parting_of.Given as goal

abbrev pub invariant-loop-place : goal.invariant-loop-place
invariant-loop-place l = parting (drop l.place l.old) (drop l.place l.new) ≡ parting l.old l.new
