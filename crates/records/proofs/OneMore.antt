-- What one more record at the end of a list changes: what a pass has seen, and which entries are kept.
use mathlib.Core.Path.{◌≡◌, refl}
use mathlib.Core.Bool.{Bool, true, false, cond, ◌||◌, true≢false}
use mathlib.Core.List.{List, [], ◌∷◌, ◌++◌, map-append}
use Prim.Native.Nat.{◌<◌}
use native.Mathlib.Omega.{arith}
use lib.IntN.{pos}
use Rattle.tables.specs.Entries.{entry}
use Rattle.tables.proofs.Integers.{equal_true}
use Rattle.records.specs.Records.{Record, is_first, has_first, after_first, is_above, some_above, entry_of}
use Rattle.records.specs.Judged.{Judged, begun, judged, judged_all, kept_entries}
use Rattle.records.proofs.AllRecords.{counted, nothing_after, is_kept, is_dropped}

pub judged_more : (j : Judged) (rs : List Record) (r : Record)
    → judged_all j (rs ++ r ∷ []) ≡ judged (judged_all j rs) r
unfolding judged_all
judged_more j [] r = refl
judged_more j (s ∷ rs) r = judged_more (judged j s) rs r

pub first_more : (rs : List Record) (r : Record) → has_first (rs ++ r ∷ []) ≡ (has_first rs || is_first r)
unfolding has_first
first_more [] r = go (is_first r)
  where
    go : (b : Bool) → (b || false) ≡ b
    go true = refl
    go false = refl
first_more (s ∷ rs) r = go (is_first s) (first_more rs r)
  where
    go : (b : Bool) → has_first (rs ++ r ∷ []) ≡ (has_first rs || is_first r)
        → (b || has_first (rs ++ r ∷ [])) ≡ ((b || has_first rs) || is_first r)
    go true rest = refl
    go false rest = rest

pub after_more : (rs : List Record) (r : Record) → has_first rs ≡ true
    → after_first (rs ++ r ∷ []) ≡ after_first rs ++ r ∷ []
unfolding has_first after_first
after_more [] r f = cc
after_more (s ∷ rs) r f = go (is_first s) f (after_more rs r)
  where
    go : (b : Bool) → (b || has_first rs) ≡ true
        → (has_first rs ≡ true → after_first (rs ++ r ∷ []) ≡ after_first rs ++ r ∷ [])
        → cond b (rs ++ r ∷ []) (after_first (rs ++ r ∷ [])) ≡ cond b rs (after_first rs) ++ r ∷ []
    go true f rest = refl
    go false f rest = rest f

-- nothing is after the last record, whether or not it is the first with offset 19
pub none_after : (rs : List Record) (r : Record) → has_first rs ≡ false → after_first (rs ++ r ∷ []) ≡ []
unfolding has_first after_first
none_after [] r f = go (is_first r)
  where
    go : (b : Bool) → ◌≡◌ {A = List Record} (cond b [] []) []
    go true = refl
    go false = refl
none_after (s ∷ rs) r f = go (is_first s) f (none_after rs r)
  where
    go : (b : Bool) → (b || has_first rs) ≡ false → (has_first rs ≡ false → after_first (rs ++ r ∷ []) ≡ [])
        → cond b (rs ++ r ∷ []) (after_first (rs ++ r ∷ [])) ≡ []
    go true f rest = absurd (true≢false f)
    go false f rest = rest f

pub not_above : (rs : List Record) (r : Record) → some_above (rs ++ r ∷ []) ≡ false
    → (some_above rs ≡ false) × (is_above r.threshold ≡ false)
unfolding some_above
not_above [] r a = go (is_above r.threshold) a
  where
    go : (b : Bool) → (b || false) ≡ false → (false ≡ false) × (b ≡ false)
    go true a = absurd (true≢false a)
    go false a = (refl, refl)
not_above (s ∷ rs) r a = go (is_above s.threshold) a (not_above rs r)
  where
    go : (b : Bool) → (b || some_above (rs ++ r ∷ [])) ≡ false
        → (some_above (rs ++ r ∷ []) ≡ false → (some_above rs ≡ false) × (is_above r.threshold ≡ false))
        → ((b || some_above rs) ≡ false) × (is_above r.threshold ≡ false)
    go true a rest = absurd (true≢false a)
    go false a rest = rest a

-- where no kept threshold of all is above the counts, none of those before the last was
pub above_before : (rs : List Record) (r : Record) → some_above (after_first (rs ++ r ∷ [])) ≡ false
    → some_above (after_first rs) ≡ false
unfolding some_above
above_before rs r a = go (has_first rs) refl
  where
    go : (b : Bool) → has_first rs ≡ b → some_above (after_first rs) ≡ false
    go true f = (not_above (after_first rs) r (rw (after_more rs r f) at a)).0
    go false f = rw (nothing_after rs f)

module _ (rs : List Record) (r : Record) where
  abbrev now : Judged
  now = judged (judged_all begun rs) r

  abbrev Joined : Type 0
  Joined = kept_entries (rs ++ r ∷ []) ≡ kept_entries rs ++ entry now.nanos now.offset ∷ []

  after_the_first : has_first rs ≡ true → some_above (after_first (rs ++ r ∷ [])) ≡ false → Joined
  after_the_first f a =
      let n : 0 < (judged_all begun rs).count = rw (counted rs, f) (omega arith) in
      rw (
        is_kept (judged_all begun rs) r n,
        (not_above (after_first rs) r (rw (after_more rs r f) at a)).1,
        first_more rs r,
        f,
        after_more rs r f,
        map-append entry_of (after_first rs) (r ∷ []),
      )

  before-first : has_first rs ≡ false → 0 < now.count → Joined
  before-first f n = go (is_first r) refl
    where
      z : (judged_all begun rs).count ≡ 0
      z = rw (counted rs, f)

      go : (b : Bool) → is_first r ≡ b → Joined
      go true e =
          rw (
            is_dropped (judged_all begun rs) r z,
            first_more rs r,
            f,
            e,
            none_after rs r f,
            equal_true r.offset (pos 19) e,
          )
      go false e = absurd (omega (arith, rw (is_dropped (judged_all begun rs) r z, e) at n))

  -- a record that is counted is kept last
  pub kept_more : some_above (after_first (rs ++ r ∷ [])) ≡ false → 0 < now.count → Joined
  kept_more a n = go (has_first rs) refl
    where
      go : (b : Bool) → has_first rs ≡ b → Joined
      go true f = after_the_first f a
      go false f = before-first f n
