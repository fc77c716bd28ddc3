-- Records that are not refused make a valid list of at most 64 entries whose thresholds are counts, since seconds and
-- their nanoseconds have the same order.
use mathlib.Core.Path.{◌≡◌, refl, sym, subst, ◌∙◌}
use mathlib.Core.Bool.{Bool, true, false, cond, ◌||◌, true≢false}
use mathlib.Core.List.{List, [], ◌∷◌, map}
use Rattle.std.specs.Prelude.{Option}
use Prim.Native.Nat.{ℕ, zero, suc, ◌*◌, ◌^◌, ◌≤◌, ◌<◌}
use native.Mathlib.Omega.{arith}
use native.Mathlib.Decide.{dec_lt}
use borrow.Author.Tests.{leb-false, ltb-false, eqb-true, le-leb, lt-leb}
use lib.Dec.{eqb, leb, ltb}
use lib.ListN.{length, get_or, length-map}
use lib.IntN.{ℤ, pos, negsuc}
use lib.Signed.{mag}
use Rattle.counts.specs.Units.{second}
use Rattle.tables.specs.Entries.{threshold, entry, neighbours, follows, valid}
use Rattle.tables.specs.Slots.{valid_table}
use Rattle.tables.proofs.Neighbours.{zero_follows}
use Rattle.tables.proofs.Buildings.{table_valid}
use Rattle.records.specs.Records.{Record, record_of, has_first, after_first, up_to_first, kept, event, or_else}
use Rattle.records.specs.Records.{follow_refusal, order_refusal, file_order, is_above, some_above, no_count, records_refusal}
use Rattle.records.specs.Records.{nanos_of, entry_of, table_from}
use Rattle.records.proofs.OrElse.{both_zero}
use Rattle.records.proofs.AllRecords.{by_threshold, order_from, from_first}

-- ---- what it means that nothing refuses them
pub record Accepted (expiry : Option ℤ) (rs : List Record) : Type 0 where
  pub has_first_lem : has_first rs ≡ true
  pub none_above : some_above (after_first rs) ≡ false
  pub expires_at_count : no_count expiry ≡ false
  pub few : length (kept rs) ≤ 64
  pub in_order : file_order rs ≡ 0

by_tests : (empty first above long : Bool) (missing k : ℕ) → 0 < missing
    → cond empty 6 (cond first (or_else (cond above 1 0) (or_else (cond long 5 0) k)) missing) ≡ 0
    → (first ≡ true) × (above ≡ false) × (long ≡ false) × (k ≡ 0)
by_tests true first above long missing k p z = absurd (omega arith)
by_tests false false above long missing k p z = absurd (omega arith)
by_tests false true true long missing k p z = absurd (omega arith)
by_tests false true false true missing k p z = absurd (omega arith)
by_tests false true false false missing k p z = (refl, refl, refl, z)

neither : (a b : Bool) → (a || b) ≡ false → (a ≡ false) × (b ≡ false)
neither true b h = absurd (true≢false h)
neither false b h = (refl, h)

pub accepted : (missing : ℕ) (expiry : Option ℤ) (rs : List Record) → records_refusal missing expiry rs ≡ 0
    → 0 < missing → Accepted expiry rs
accepted missing expiry rs z p =
    let long = ltb 64 (length (kept rs)) in
    let above = some_above (after_first rs) || no_count expiry in
    let h = by_tests (eqb (length rs) 0) (has_first rs) above long missing (file_order rs) p z in
    let counts = neither (some_above (after_first rs)) (no_count expiry) h.1 in
    record {
      has_first_lem = h.0;
      none_above = counts.0;
      expires_at_count = counts.1;
      few = ltb-false _ _ h.2;
      in_order = h.3;
    }

-- ---- seconds and nanoseconds have the same order
scaled : (s t : ℕ) → leb (t * second) (s * second) ≡ leb t s
scaled s t = go (dec_lt s t)
  where
    go : Dec (s < t) → leb (t * second) (s * second) ≡ leb t s
    go (yes l) = lt-leb (t * second) (s * second) (omega arith) ∙ sym (lt-leb t s l)
    go (no l) = le-leb (t * second) (s * second) (omega (arith, l)) ∙ sym (le-leb t s (omega (arith, l)))

module _ (s : ℕ) (m : ℤ) where
  -- a record that follows a second from 0 on
  follows_on : (t n : ℤ) → follow_refusal (pos s) m t n ≡ 0 → follows (entry (s * second) m) (entry (nanos_of t) n) ≡ true
  follows_on (pos t) n z = zero_follows (entry (s * second) m) (entry (t * second) n) (rw (scaled s t) z)
  follows_on (negsuc t) n z = absurd (omega arith)

  is_from_zero : (t n : ℤ) → follow_refusal (pos s) m t n ≡ 0 → t ≡ pos (mag t)
  is_from_zero (pos t) n z = refl
  is_from_zero (negsuc t) n z = absurd (omega arith)

valid-from : (s : ℕ) (m : ℤ) (rs : List Record) → order_from by_threshold (pos s) m rs ≡ 0
    → valid (entry (s * second) m ∷ map entry_of rs) ≡ true
unfolding order_from neighbours
valid-from s m [] z = refl
valid-from s m (r ∷ rs) z =
    let h = both_zero (follow_refusal (pos s) m r.threshold r.offset)
    (order_from by_threshold r.threshold r.offset rs) z in
    let t = is_from_zero s m r.threshold r.offset h.0 in
    let rest = valid-from (mag r.threshold) r.offset rs (rw t at h.1) in
    rw (follows_on s m r.threshold r.offset h.0)
    (subst (λ (u : ℤ). valid (entry (nanos_of u) r.offset ∷ map entry_of rs) ≡ true) (sym t) rest)

-- ---- thresholds that are counts
is_count : (t : ℤ) → is_above t ≡ false → nanos_of t < 2 ^ 64
is_count (pos t) b = leb-false (2 ^ 64) (t * second) b
is_count (negsuc t) b = omega arith

are_counts : (rs : List Record) → some_above rs ≡ false → (k : ℕ)
    → threshold (get_or (map entry_of rs) k (entry 0 (pos 0))) < 2 ^ 64
unfolding some_above
are_counts [] a k = omega arith
are_counts (r ∷ rs) a zero = is_count r.threshold (neither (is_above r.threshold) (some_above rs) a).0
are_counts (r ∷ rs) a (suc k) = are_counts rs (neither (is_above r.threshold) (some_above rs) a).1 k

-- ---- the entries of records that are not refused
module _ (missing : ℕ) (expiry : Option ℤ) (rs : List Record) (z : records_refusal missing expiry rs ≡ 0) (p : 0 < missing) where
  pub accepted_valid : valid (map entry_of (kept rs)) ≡ true
  accepted_valid =
      let all = both_zero (order_refusal event (up_to_first rs)) (order_refusal by_threshold (kept rs))
      (accepted missing expiry rs z p).in_order in
      valid-from 0 (pos 19) (after_first rs)
      (sym (from_first by_threshold (record_of (pos 0) (pos 19)) (after_first rs)) ∙ all.1)

  pub accepted_few : length (map entry_of (kept rs)) ≤ 64
  accepted_few = rw (length-map (kept rs) entry_of) (accepted missing expiry rs z p).few

  pub accepted_counts : (k : ℕ) → threshold (get_or (map entry_of (kept rs)) k (entry 0 (pos 0))) < 2 ^ 64
  accepted_counts zero = omega arith
  accepted_counts (suc k) = are_counts (after_first rs) (accepted missing expiry rs z p).none_above k

-- so the table that is made of records is valid; with no entry it is too
pub made_valid : (missing : ℕ) (expiry : Option ℤ) (rs : List Record) → 0 < missing
    → valid_table (table_from missing expiry rs).1 ≡ true
unfolding neighbours
made_valid missing expiry rs p = go (eqb (records_refusal missing expiry rs) 0) refl
  where
    go : (b : Bool) → eqb (records_refusal missing expiry rs) 0 ≡ b
        → valid_table (table_from missing expiry rs).1 ≡ true
    go true e =
        let z = eqb-true (records_refusal missing expiry rs) 0 e in
        rw e
        (table_valid (map entry_of (kept rs)) (accepted_few missing expiry rs z p) (accepted_valid missing expiry rs z p))
    go false e = rw e (table_valid [] (omega arith) refl)
