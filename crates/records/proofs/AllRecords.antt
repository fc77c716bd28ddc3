-- One pass over all records of a file sees what the definitions say of them: how many are kept, whether a kept
-- threshold is above the counts, and the first refusal by order. So the pass gives the refusal that they give.
use mathlib.Core.Path.{◌≡◌, refl, sym, ap, ◌∙◌}
use mathlib.Core.Bool.{Bool, true, false, cond, ◌||◌, or-false, or_assoc, false≢true, true≢false}
use mathlib.Core.List.{List, [], ◌∷◌}
use Rattle.std.specs.Prelude.{Option}
use Prim.Native.Nat.{ℕ, zero, suc, ◌+◌, ◌<◌}
use native.Mathlib.Omega.{arith}
use lib.Dec.{eqb-suc-zero, ltb}
use lib.ListN.{length, length-map}
use lib.IntN.{ℤ, pos}
use Rattle.tables.proofs.Integers.{equal_true}
use Rattle.records.specs.Records.{Record, record_of, event, is_first, has_first, up_to_first, after_first, kept}
use Rattle.records.specs.Records.{or_else, follow_refusal, order_refusal, file_order, is_above, some_above, no_count, entry_of}
use Rattle.records.specs.Records.{records_refusal}
use Rattle.records.specs.Judged.{Judged, begun, dropped, keeping, by_count, judged, judged_all, verdict_of}
use Rattle.records.specs.Judged.{kept_entries}
use Rattle.records.proofs.OrElse.{nothing_else, or_else_assoc, by_test}

abbrev pub by_threshold : Record → ℤ
by_threshold r = r.threshold

-- ---- the first refusal of records that follow a second and an offset
unfoldable pub order_from : (Record → ℤ) → ℤ → ℤ → List Record → ℕ
order_from at s m [] = 0
order_from at s m (r ∷ rs) = or_else (follow_refusal s m (at r) r.offset) (order_from at (at r) r.offset rs)

pub from_first : (at : Record → ℤ) (p : Record) (rs : List Record)
    → order_refusal at (p ∷ rs) ≡ order_from at (at p) p.offset rs
unfolding order_refusal order_from
from_first at p [] = refl
from_first at p (r ∷ rs) = rw (from_first at r rs)

-- the same, where `some` says whether a record is before them
abbrev order_after : Bool → (Record → ℤ) → ℤ → ℤ → List Record → ℕ
order_after some at s m rs = cond some (order_from at s m rs) (order_refusal at rs)

after_one : (some : Bool) (at : Record → ℤ) (s m : ℤ) (r : Record) (rs : List Record)
    → order_after some at s m (r ∷ rs)
    ≡ or_else (cond some (follow_refusal s m (at r) r.offset) 0) (order_from at (at r) r.offset rs)
unfolding order_from
after_one true at s m r rs = refl
after_one false at s m r rs = from_first at r rs

-- ---- after the first with offset 19
-- what a verdict looks at
record Sees (j : Judged) (count : ℕ) (above : Bool) (why : ℕ) : Type 0 where
  some : j.some ≡ true
  counts : j.count ≡ count
  aboves : j.above ≡ above
  whys : j.why ≡ why

pub is_kept : (j : Judged) (r : Record) → 0 < j.count → judged j r ≡ keeping j r
is_kept j r h = go j.count h
  where
    go : (n : ℕ) → 0 < n → by_count n (dropped j r) (keeping j r) ≡ keeping j r
    go zero h = absurd (omega arith)
    go (suc n) h = refl

pub is_dropped : (j : Judged) (r : Record) → j.count ≡ 0 → judged j r ≡ dropped j r
is_dropped j r z = ap (λ (n : ℕ). by_count n (dropped j r) (keeping j r)) z

after : (j : Judged) (rs : List Record) → j.some ≡ true → 0 < j.count
    → Sees (judged_all j rs) (j.count + length rs) (j.above || some_above rs)
    (or_else j.why (order_from by_threshold j.second j.offset rs))
unfolding judged_all some_above order_from
after j [] s h =
    record { some = s; counts = omega arith; aboves = sym (or-false j.above); whys = sym (nothing_else j.why) }
after j (r ∷ rs) s h =
    let n : suc j.count + length rs ≡ j.count + suc (length rs) = omega arith in
    rw (
      is_kept j r h,
      ← n,
      ← or_assoc j.above (is_above r.threshold) (some_above rs),
      ← or_else_assoc j.why (follow_refusal j.second j.offset r.threshold r.offset)
          (order_from by_threshold r.threshold r.offset rs),
    )
    (after (keeping j r) rs refl (omega arith))

-- ---- up to it
-- `dropped`, by whether the record is the first with offset 19
abbrev dropped_by : Bool → Judged → Record → Judged
dropped_by first j r = record {
  some = true;
  count = cond first 1 0;
  above = j.above;
  why = or_else j.why (cond j.some (follow_refusal j.second j.offset (event r) r.offset) 0);
  second = cond first (pos 0) (event r);
  offset = r.offset;
  nanos = 0;
}

abbrev Whole : Judged → List Record → Type 0
Whole j rs =
    Sees (judged_all j rs) (suc (length (after_first rs))) (j.above || some_above (after_first rs))
    (or_else j.why
    (or_else (order_after j.some event j.second j.offset (up_to_first rs)) (order_refusal by_threshold (kept rs))))

module _ (j : Judged) (r : Record) (rs : List Record) (z : j.count ≡ 0) where
  abbrev follow : ℕ
  follow = cond j.some (follow_refusal j.second j.offset (event r) r.offset) 0

  first-here : is_first r ≡ true → Whole j (r ∷ rs)
  unfolding judged_all after_first up_to_first order_from
  first-here e =
      let is : r.offset ≡ pos 19 = equal_true r.offset (pos 19) e in
      let n : 1 + length rs ≡ suc (length rs) = omega arith in
      rw (
        is_dropped j r z,
        e,
        ← n,
        after_one j.some event j.second j.offset r [],
        nothing_else follow,
        from_first by_threshold (record_of (pos 0) (pos 19)) rs,
        ← or_else_assoc j.why follow (order_from by_threshold (pos 0) (pos 19) rs),
        ← is,
      )
      (after (dropped_by true j r) rs refl (omega arith))

  first-later : is_first r ≡ false → Whole (dropped_by false j r) rs → Whole j (r ∷ rs)
  unfolding judged_all after_first up_to_first
  first-later e rest =
      rw (
        is_dropped j r z,
        e,
        after_one j.some event j.second j.offset r (up_to_first rs),
        or_else_assoc follow (order_from event (event r) r.offset (up_to_first rs)) (order_refusal by_threshold (kept rs)),
        ← or_else_assoc j.why follow
            (or_else (order_from event (event r) r.offset (up_to_first rs)) (order_refusal by_threshold (kept rs))),
      )
      rest

whole : (j : Judged) (rs : List Record) → j.count ≡ 0 → has_first rs ≡ true → Whole j rs
unfolding has_first
whole j [] z f = absurd (false≢true f)
whole j (r ∷ rs) z f = go (is_first r) refl f (whole (dropped_by false j r) rs refl)
  where
    go : (b : Bool) → is_first r ≡ b → (b || has_first rs) ≡ true → (has_first rs ≡ true → Whole (dropped_by false j r) rs)
        → Whole j (r ∷ rs)
    go true e f rest = first-here j r rs z e
    go false e f rest = first-later j r rs z e (rest f)

-- where none has offset 19
none_kept : (j : Judged) (rs : List Record) → j.count ≡ 0 → has_first rs ≡ false → (judged_all j rs).count ≡ 0
unfolding has_first judged_all
none_kept j [] z f = z
none_kept j (r ∷ rs) z f = go (is_first r) refl f (none_kept (dropped_by false j r) rs refl)
  where
    go : (b : Bool) → is_first r ≡ b → (b || has_first rs) ≡ false
        → (has_first rs ≡ false → (judged_all (dropped_by false j r) rs).count ≡ 0) → (judged_all j (r ∷ rs)).count ≡ 0
    go true e f rest = absurd (true≢false f)
    go false e f rest =
        ap (λ (k : Judged). (judged_all k rs).count) (is_dropped j r z ∙ ap (λ (b : Bool). dropped_by b j r) e) ∙ rest f

pub nothing_after : (rs : List Record) → has_first rs ≡ false → after_first rs ≡ []
unfolding has_first after_first
nothing_after [] f = refl
nothing_after (r ∷ rs) f = go (is_first r) f (nothing_after rs)
  where
    go : (b : Bool) → (b || has_first rs) ≡ false → (has_first rs ≡ false → after_first rs ≡ [])
        → cond b rs (after_first rs) ≡ []
    go true f rest = absurd (true≢false f)
    go false f rest = rest f

came : (j : Judged) (rs : List Record) → j.some ≡ true → (judged_all j rs).some ≡ true
unfolding judged_all
came j [] s = s
came j (r ∷ rs) s = came (judged j r) rs (go j.count)
  where
    go : (n : ℕ) → (by_count n (dropped j r) (keeping j r)).some ≡ true
    go zero = refl
    go (suc n) = refl

-- ---- from the first record on
pub counted : (rs : List Record) → (judged_all begun rs).count ≡ length (kept_entries rs)
counted rs = go (has_first rs) refl
  where
    go : (b : Bool) → has_first rs ≡ b → (judged_all begun rs).count ≡ length (kept_entries rs)
    go true f = rw f ((whole begun rs refl f).counts ∙ ap suc (sym (length-map (after_first rs) entry_of)))
    go false f = rw f (none_kept begun rs refl f)

pub all-judged : (missing : ℕ) (expiry : Option ℤ) (rs : List Record)
    → verdict_of missing expiry (judged_all begun rs) ≡ records_refusal missing expiry rs
unfolding judged_all
all-judged missing expiry [] = refl
all-judged missing expiry (r ∷ rs) = go (has_first (r ∷ rs)) refl
  where
    go : (b : Bool) → has_first (r ∷ rs) ≡ b
        → verdict_of missing expiry (judged_all begun (r ∷ rs)) ≡ records_refusal missing expiry (r ∷ rs)
    go true f =
        let w = whole begun (r ∷ rs) refl f in
        let long = ltb 64 (suc (length (after_first (r ∷ rs)))) in
        let above = some_above (after_first (r ∷ rs)) || no_count expiry in
        rw (
          w.some,
          w.counts,
          w.aboves,
          w.whys,
          eqb-suc-zero (length rs),
          eqb-suc-zero (length (after_first (r ∷ rs))),
          f,
          by_test above 0 (or_else (cond long 5 0) (file_order (r ∷ rs))),
          by_test long 4 (file_order (r ∷ rs)),
        )
    go false f =
        rw (
          came (dropped begun r) rs refl,
          none_kept begun (r ∷ rs) refl f,
          eqb-suc-zero (length rs),
          f,
        )
