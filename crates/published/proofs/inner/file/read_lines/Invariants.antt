-- The lines before `at` are read, their records are judged and stored, and their expiry is kept.
use Rattle.std.proofs.Common.{◌≡◌, ◌+◌, ◌-◌, ◌<◌, List, length}
use Rattle.records.specs.Records.{Record}
use Rattle.records.specs.Judged.{Holds}
use Rattle.published.proofs.WholeFile.{ReadTo}
use Rattle.published.proofs.inner.file.read_lines.Given as goal

abbrev pub invariant-loop-at : goal.invariant-loop-at
invariant-loop-at l = record {
  past : List Record;
  read : ReadTo l.s past l.expiry l.line l.at;
  held : Holds past l.gathered;
  counted : l.records ≡ length past;
  kept : l.gathered.seen.count < l.line;
  held_few : l.records < l.line;
}

abbrev pub decreases-loop-at : goal.decreases-loop-at
decreases-loop-at l = length l.s + 1 - l.at
