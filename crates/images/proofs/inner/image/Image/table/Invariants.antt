-- The slots before the i-th are those of the table.
use Rattle.std.proofs.Common.{◌≡◌, ℕ, ◌<◌, length, get_or, pos}
use Rattle.images.specs.Image.{table_in}
use Rattle.images.proofs.inner.image.Image.table.Given as goal

abbrev pub invariant-loop-i : goal.invariant-loop-i
invariant-loop-i l = record {
  threshold_count : length l.thresholds ≡ 64;
  offset_count : length l.offsets ≡ 64;
  thresholds_kept : (k : ℕ) → k < l.i → get_or l.thresholds k 0 ≡ get_or (table_in l.self.bytes.now).thresholds k 0;
  offsets_kept : (k : ℕ) → k < l.i → get_or l.offsets k (pos 0) ≡ get_or (table_in l.self.bytes.now).offsets k (pos 0);
}
