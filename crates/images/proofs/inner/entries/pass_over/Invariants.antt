-- The pass over the entries from the i-th on, after those before it, is the pass over all, and the offsets before fit.
use Rattle.std.proofs.Common.{◌-◌, ◌*◌, ◌/◌, ◌<◌, ◌≡◌, ℕ, drop, get_or, length, w32, SFits}
use Rattle.tables.specs.Entries.{offset}
use Rattle.lent.specs.Pass.{seen_in, begun, passed}
use Rattle.lent.proofs.Passing.{no_entry}
use Rattle.images.specs.Listed.{entries_in, entries_from}
use Rattle.images.proofs.inner.entries.pass_over.Given as goal

abbrev pub invariant-loop-i : goal.invariant-loop-i
invariant-loop-i l =
    let b = l.entries in
    record {
      counted : l.pass.count ≡ l.i;
      left : passed (seen_in l.pass) (entries_from (length b / 12 - l.i) (drop (12 * l.i) b)) ≡ passed (begun l.tai) (entries_in b);
      fit : (k : ℕ) → k < l.i → SFits w32 (offset (get_or (entries_in b) k no_entry));
    }
