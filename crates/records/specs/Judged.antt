-- What one pass over records has seen, a record at a time. Only contracts of functions in `inner` cite it: what it comes
-- to for all records of a file is in proofs/AllRecords.antt.
use Rattle.std.specs.Prelude.{◌≡◌, Bool, true, false, cond, ◌||◌, List, [], ◌∷◌, map, ℕ, zero, suc, ◌≤◌, eqb, ltb, length, ℤ, pos, Option}
use Rattle.tables.specs.Answers.{taken_in}
use Rattle.tables.specs.Entries.{Entry}
use Rattle.tables.specs.Slots.{table_of}
use Rattle.records.specs.Records.{Record, event, is_first, or_else, follow_refusal, is_above, nanos_of}
use Rattle.records.specs.Records.{has_first, after_first, kept, some_above, no_count, entry_of}
use Rattle.records.specs.declared.inner.Gathered.{Gathered}
use Rattle.records.specs.declared.inner.Progress.{Progress}

-- whether a record came; how many are kept; whether a kept threshold is above the counts; the first refusal by order; the
-- second and the offset that the next record has to follow; and the last kept threshold in nanoseconds
pub record Judged : Type 0 where
  pub some : Bool
  pub count : ℕ
  pub above : Bool
  pub why : ℕ
  pub second : ℤ
  pub offset : ℤ
  pub nanos : ℕ

abbrev pub judged_in : Progress → Judged
judged_in p = record {
  some = p.some;
  count = p.count;
  above = p.above;
  why = taken_in p.why;
  second = p.last.threshold;
  offset = p.last.offset;
  nanos = p.nanos;
}

abbrev pub begun : Judged
begun = record { some = false; count = 0; above = false; why = 0; second = pos 0; offset = pos 0; nanos = 0 }

-- up to the first record with offset 19
abbrev pub dropped : Judged → Record → Judged
dropped j r = record {
  some = true;
  count = cond (is_first r) 1 0;
  above = j.above;
  why = or_else j.why (cond j.some (follow_refusal j.second j.offset (event r) r.offset) 0);
  second = cond (is_first r) (pos 0) (event r);
  offset = r.offset;
  nanos = 0;
}

-- after it
abbrev pub keeping : Judged → Record → Judged
keeping j r = record {
  some = true;
  count = suc j.count;
  above = j.above || is_above r.threshold;
  why = or_else j.why (follow_refusal j.second j.offset r.threshold r.offset);
  second = r.threshold;
  offset = r.offset;
  nanos = cond (is_above r.threshold) 0 (nanos_of r.threshold);
}

abbrev pub by_count : ℕ → Judged → Judged → Judged
by_count zero d k = d
by_count (suc n) d k = k

abbrev pub judged : Judged → Record → Judged
judged j r = by_count j.count (dropped j r) (keeping j r)

unfoldable pub judged_all : Judged → List Record → Judged
judged_all j [] = j
judged_all j (r ∷ rs) = judged_all (judged j r) rs

-- why the records seen make no table with an expiry
abbrev pub verdict_of : ℕ → Option ℤ → Judged → ℕ
verdict_of missing expiry j =
    cond j.some
    (cond (eqb j.count 0) missing (cond (j.above || no_count expiry) 1 (cond (ltb 64 j.count) 5 j.why)))
    6

-- the entries kept so far
abbrev pub kept_entries : List Record → List Entry
kept_entries rs = cond (has_first rs) (map entry_of (kept rs)) []

-- what has been seen is told, and the arrays hold the kept entries, where these are counts and there is room
pub record Holds (rs : List Record) (g : Gathered) : Type 0 where
  pub seen : judged_in g.seen ≡ judged_all begun rs
  pub thresholds : some_above (after_first rs) ≡ false → length (kept_entries rs) ≤ 64
      → g.thresholds ≡ (table_of (kept_entries rs)).thresholds
  pub offsets : some_above (after_first rs) ≡ false → length (kept_entries rs) ≤ 64
      → g.offsets ≡ (table_of (kept_entries rs)).offsets
