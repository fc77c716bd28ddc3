-- The entries before `entry` are passed, and those from it on are still to come. The offsets of those passed are 32-bit.
use Rattle.std.proofs.Common.{◌≡◌, ℕ, ◌<◌, get_or, drop, SFits, w32}
use Rattle.tables.specs.Entries.{offset}
use Rattle.lent.specs.Pass.{seen_in, begun, passed}
use Rattle.lent.proofs.Passing.{no_entry}
use Rattle.lent.proofs.inner.Pass.over.Given as goal

abbrev pub invariant-loop-entry : goal.invariant-loop-entry
invariant-loop-entry l = record {
  counts : l.pass.count ≡ l.entry-index;
  comes : passed (seen_in l.pass) (drop l.entry-index l.entries) ≡ passed (begun l.tai) l.entries;
  fits : (k : ℕ) → k < l.entry-index → SFits w32 (offset (get_or l.entries k no_entry));
}
