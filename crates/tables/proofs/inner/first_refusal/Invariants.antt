-- The entries that are left have the first refusal of all.
use Rattle.std.proofs.Common.{◌-◌, ◌≡◌, drop}
use Rattle.tables.specs.Entries.{first_refusal}
use Rattle.tables.specs.Slots.{slots}
use Rattle.tables.proofs.inner.first_refusal.Given as goal

abbrev pub invariant-loop-i : goal.invariant-loop-i
invariant-loop-i l =
    first_refusal (drop (l.i - 1) (slots l.thresholds l.offsets l.n)) ≡ first_refusal (slots l.thresholds l.offsets l.n)
