-- What the arrays hold while records are taken one at a time, and that they are the table in the end: from what one
-- more record changes, and from the verdict on all of them.
use mathlib.Core.Path.{◌≡◌, refl, sym, ap, ◌∙◌}
use mathlib.Core.Bool.{Bool, true, false, cond}
use mathlib.Core.List.{List, [], ◌∷◌, ◌++◌, map}
use Rattle.std.specs.Prelude.{Option}
use Prim.Native.Nat.{ℕ, zero, suc, ◌+◌, ◌-◌, ◌≤◌, ◌<◌}
use native.Mathlib.Nat.{sub-zero, suc-sub-suc}
use native.Mathlib.Omega.{arith}
use borrow.Author.Tests.{ne_eqb}
use lib.ListN.{length, set, replicate, length-append}
use lib.IntN.{ℤ, pos}
use Rattle.tables.specs.Entries.{Entry, threshold, offset, entry}
use Rattle.tables.specs.Slots.{table_of}
use Rattle.records.specs.Records.{Record, is_first, has_first, after_first, kept, some_above, entry_of}
use Rattle.records.specs.Records.{no_count, records_refusal, expiry_of, table_from}
use Rattle.records.specs.Judged.{Judged, judged_in, begun, dropped, keeping, by_count, judged, judged_all}
use Rattle.records.specs.Judged.{verdict_of, kept_entries, Holds}
use Rattle.records.specs.declared.inner.Gathered.{Gathered}
use Rattle.records.specs.declared.inner.Progress.{Progress}
use Rattle.records.proofs.AllRecords.{counted, all-judged}
use Rattle.records.proofs.OneMore.{judged_more, above_before, kept_more}
use Rattle.records.proofs.KeptValid.{accepted, accepted_few}

-- ---- before the first record
pub holds-begin : (p : Progress) → judged_in p ≡ begun
    → Holds [] (record { thresholds = replicate 64 0; offsets = replicate 64 (pos 0); seen = p })
unfolding judged_all has_first
holds-begin p b = record { seen = b; thresholds = λ a l. refl; offsets = λ a l. refl }

-- ---- one more entry is stored in the slot past those before it
module _ {A : Type 0} (f : Entry → A) (z : A) (e : Entry) where
  one_stored : (n : ℕ) (es : List Entry) → length es < n
      → set (map f es ++ replicate (n - length es) z) (length es) (f e)
      ≡ map f (es ++ e ∷ []) ++ replicate (n - length (es ++ e ∷ [])) z
  one_stored zero es l = absurd (omega arith)
  one_stored (suc n) [] l = rw (sub-zero, suc-sub-suc, sub-zero)
  one_stored (suc n) (d ∷ es) l =
      rw (suc-sub-suc n (length es), suc-sub-suc n (length (es ++ e ∷ [])))
      (ap (λ (xs : List A). f d ∷ xs) (one_stored n es (omega arith)))

-- ---- one more record
-- the number of kept records grows by at most 1
pub counts-on : (j : Judged) (r : Record) → (j.count ≤ (judged j r).count) × ((judged j r).count ≤ j.count + 1)
counts-on j r = go j.count refl
  where
    first : (b : Bool) → (0 ≤ cond {A = ℕ} b 1 0) × (cond {A = ℕ} b 1 0 ≤ 1)
    first true = (omega arith, omega arith)
    first false = (omega arith, omega arith)

    go : (n : ℕ) → j.count ≡ n → (n ≤ (by_count n (dropped j r) (keeping j r)).count)
        × ((by_count n (dropped j r) (keeping j r)).count ≤ n + 1)
    go zero e = first (is_first r)
    go (suc n) e = (omega arith, omega arith)

no_entry_lem : (es : List Entry) → length es ≡ 0 → es ≡ []
no_entry_lem [] z = refl
no_entry_lem (e ∷ es) z = absurd (omega arith)

module _ (rs : List Record) (g : Gathered) (q : Progress) (r : Record) (h : Holds rs g)
    (is : judged_in q ≡ judged (judged_in g.seen) r) where
  abbrev all : List Record
  all = rs ++ r ∷ []

  seen-now : judged_in q ≡ judged (judged_all begun rs) r
  seen-now = is ∙ ap (λ (j : Judged). judged j r) h.seen

  seen_all : judged_in q ≡ judged_all begun all
  seen_all = seen-now ∙ sym (judged_more begun rs r)

  counts_all : q.count ≡ length (kept_entries all)
  counts_all = ap (λ (j : Judged). j.count) seen_all ∙ counted all

  fewer-before : length (kept_entries rs) ≤ length (kept_entries all)
  fewer-before =
      omega (
        arith,
        counted rs,
        (counts-on (judged_all begun rs) r).0,
        ap (λ (j : Judged). j.count) seen-now,
        counts_all,
      )

  held_thresholds : some_above (after_first all) ≡ false → length (kept_entries all) ≤ 64
      → g.thresholds ≡ (table_of (kept_entries rs)).thresholds
  held_thresholds a l = h.thresholds (above_before rs r a) (omega (arith, fewer-before))

  held_offsets : some_above (after_first all) ≡ false → length (kept_entries all) ≤ 64
      → g.offsets ≡ (table_of (kept_entries rs)).offsets
  held_offsets a l = h.offsets (above_before rs r a) (omega (arith, fewer-before))

  -- where no record is kept yet, nothing is to be stored
  pub holds_next_unkept : q.count ≡ 0 → Holds all (record { thresholds = g.thresholds; offsets = g.offsets; seen = q })
  holds_next_unkept z =
      record {
        seen = seen_all;
        thresholds = λ a l. held_thresholds a l ∙ ap (λ es. (table_of es).thresholds) same;
        offsets = λ a l. held_offsets a l ∙ ap (λ es. (table_of es).offsets) same;
      }
    where
      same : kept_entries rs ≡ kept_entries all
      same =
          no_entry_lem (kept_entries rs) (omega (arith, fewer-before, counts_all))
          ∙ sym (no_entry_lem (kept_entries all) (sym counts_all ∙ z))

  -- where there is no room, nothing is claimed of the arrays
  pub holds_next_full : 64 < q.count → Holds all (record { thresholds = g.thresholds; offsets = g.offsets; seen = q })
  holds_next_full l =
      record {
        seen = seen_all;
        thresholds = λ a k. absurd (omega (arith, counts_all));
        offsets = λ a k. absurd (omega (arith, counts_all));
      }

  -- else it is stored in the slot past the entries before it
  module _ (some : 0 < q.count) (room : q.count ≤ 64) where
    last-kept : some_above (after_first all) ≡ false
        → kept_entries all ≡ kept_entries rs ++ entry q.nanos q.last.offset ∷ []
    last-kept a =
        let n : 0 < (judged (judged_all begun rs) r).count = omega (arith, ap (λ (j : Judged). j.count) seen-now) in
        kept_more rs r a n
        ∙ ap (λ (j : Judged). kept_entries rs ++ entry j.nanos j.offset ∷ []) (sym seen-now)

    stored : {A : Type 0} (f : Entry → A) (z : A) (xs : List A) → some_above (after_first all) ≡ false
        → xs ≡ map f (kept_entries rs) ++ replicate (64 - length (kept_entries rs)) z
        → set xs (q.count - 1) (f (entry q.nanos q.last.offset))
        ≡ map f (kept_entries all) ++ replicate (64 - length (kept_entries all)) z
    stored f z xs a e =
        let one = length-append (kept_entries rs) (entry q.nanos q.last.offset ∷ []) in
        let at : q.count - 1 ≡ length (kept_entries rs) = omega (arith, counts_all, ap length (last-kept a), one) in
        rw (e, at, last-kept a)
        (one_stored f z (entry q.nanos q.last.offset) 64 (kept_entries rs) (omega arith))

    pub holds-next : Holds all (record {
      thresholds = set g.thresholds (q.count - 1) q.nanos;
      offsets = set g.offsets (q.count - 1) q.last.offset;
      seen = q;
    })
    holds-next =
        record {
          seen = seen_all;
          thresholds = λ a l. stored threshold 0 g.thresholds a (held_thresholds a l);
          offsets = λ a l. stored offset (pos 0) g.offsets a (held_offsets a l);
        }

-- ---- the table
module _ (missing : ℕ) (expiry : Option ℤ) (rs : List Record) (g : Gathered) (h : Holds rs g) where
  verdict_is : verdict_of missing expiry (judged_in g.seen) ≡ records_refusal missing expiry rs
  verdict_is = ap (verdict_of missing expiry) h.seen ∙ all-judged missing expiry rs

  -- on a refusal the table has no entry
  pub holds_refused : (k : ℕ) → (k ≡ 0 → ⊥) → k ≡ verdict_of missing expiry (judged_in g.seen)
      → (k, table_of []) ≡ table_from missing expiry rs
  holds_refused k n e = rw (← (e ∙ verdict_is), ne_eqb k 0 n)

  -- else it is the arrays, with the expiry that was read
  pub holds_finish : (x : ℕ) → x ≡ cond (no_count expiry) 0 (expiry_of expiry) → 0 < missing
      → 0 ≡ verdict_of missing expiry (judged_in g.seen)
      → (0, record { thresholds = g.thresholds; offsets = g.offsets; len = g.seen.count; expiry = x }) ≡ table_from missing expiry rs
  holds_finish x at l e =
      let z : records_refusal missing expiry rs ≡ 0 = sym (e ∙ verdict_is) in
      let a = accepted missing expiry rs z l in
      let es : kept_entries rs ≡ map entry_of (kept rs) = rw a.has_first_lem in
      let few : length (kept_entries rs) ≤ 64 = rw es (accepted_few missing expiry rs z l) in
      let n : g.seen.count ≡ length (kept_entries rs) = ap (λ (j : Judged). j.count) h.seen ∙ counted rs in
      let counts : x ≡ expiry_of expiry =
      at ∙ ap (λ (b : Bool). cond b 0 (expiry_of expiry)) a.expires_at_count in
      rw (z, h.thresholds a.none_above few, h.offsets a.none_above few, n, es, counts)
