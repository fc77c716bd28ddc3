-- What an added entry changes: a run of entries leaves a list that begins with the one before it, by induction over the
-- run, and SameBefore.antt speaks of such lists.
use mathlib.Core.Path.{◌≡◌, refl, sym, ap, ◌∙◌, subst}
use mathlib.Core.Bool.{Bool, true, false, cond}
use mathlib.Core.List.{List, [], ◌∷◌, ◌++◌, append_assoc, append-nil}
use Prim.Native.Nat.{ℕ, ◌+◌, ◌*◌, ◌-◌, ◌<◌}
use native.Mathlib.Omega.{arith}
use borrow.Author.Tests.{eq-eqb, ltb-true}
use lib.Dec.{eqb, leb, ltb}
use lib.ListN.{length, drop}
use lib.IntN.{pos, ◌+ℤ◌}
use Rattle.refusals.specs.Outcome.{value_in}
use Rattle.tables.specs.Entries.{Entry, threshold, offset, equal, regular, last_or, join_refusal, neighbours, lookup, in_force}
use Rattle.tables.proofs.Integers.{equal_true}
use Rattle.tables.proofs.Neighbours.{both, zero_follows}
use Rattle.tables.proofs.Growing.{not_too_long}
use Rattle.tables.proofs.Reached as list
use Rattle.counts.specs.Units.{second, day_seconds}
use Rattle.conversions.specs.Conversions.{E}
use Rattle.pushing.specs.SameBefore.{gps_from, utc_from, SameByLists, ChangesByLists}
use Rattle.pushing.specs.AddedEntries.{after, joined, half_a_second_on, AddedEntries}
use Rattle.pushing.proofs.BelowEntry.{last-offset}
use Rattle.pushing.proofs.SameBefore.{same_before_lem, changes_from}
use Rattle.pushing.proofs.OtherScales.{other_scales}

-- ---- a run leaves a list that begins with the one before
pub runs : (es run : List Entry) → (rest : List Entry) × (after joined es run ≡ es ++ rest)
unfolding after
runs es [] = ([], sym (append-nil es))
runs es (e ∷ run) = go (eqb (join_refusal es e) 0) (runs es run) (runs (es ++ e ∷ []) run)
  where
    go : (b : Bool) → (rest : List Entry) × (after joined es run ≡ es ++ rest)
        → (rest : List Entry) × (after joined (es ++ e ∷ []) run ≡ (es ++ e ∷ []) ++ rest)
        → (rest : List Entry) × (after joined (cond b (es ++ e ∷ []) es) run ≡ es ++ rest)
    go true kept (rest, is) = (e ∷ rest, is ∙ append_assoc es (e ∷ []) rest)
    go false kept grown = kept

begins : (es : List Entry) (e : Entry) (run : List Entry) → join_refusal es e ≡ 0
    → (rest : List Entry) × (after joined es (e ∷ run) ≡ es ++ e ∷ rest)
unfolding after
begins es e run z =
    let (rest, is) = runs (es ++ e ∷ []) run in
    let joins : (joined es e).1 ≡ es ++ e ∷ [] = rw (eq-eqb (join_refusal es e) 0 z) in
    (rest, ap (λ (xs : List Entry). after joined xs run) joins ∙ is ∙ append_assoc es (e ∷ []) rest)

-- the last entry of a run
one_after : (es run : List Entry) (e : Entry) → after joined es (run ++ e ∷ []) ≡ (joined (after joined es run) e).1
unfolding after
one_after es [] e = refl
one_after es (f ∷ run) e = one_after (joined es f).1 run e

-- ---- an entry that a regular list takes
taken : (p : Entry) (ps : List Entry) (e : Entry) → join_refusal (p ∷ ps) e ≡ 0
    → (threshold (last_or p ps) < threshold e) × (offset e ≡ offset (last_or p ps) +ℤ pos 1)
unfolding join_refusal
taken p ps e z =
    let last = last_or p ps in
    let (rises, more) = both (ltb (threshold last) (threshold e)) (equal (offset e) (offset last +ℤ pos 1))
    (zero_follows last e (not_too_long (leb 64 (length (p ∷ ps))) z).1) in
    (ltb-true _ _ rises, equal_true _ _ more)

module _ (es : List Entry) (e : Entry) (r : regular es ≡ true) (z : join_refusal es e ≡ 0) where
  abbrev l : list.Regular es
  l = list.of-regular es r

  facts : (threshold (last_or l.first (drop 1 es)) < threshold e)
      × (offset e ≡ offset (last_or l.first (drop 1 es)) +ℤ pos 1)
  facts = taken l.first (drop 1 es) e (sym (ap (λ (xs : List Entry). join_refusal xs e) l.begins_with) ∙ z)

  late : 0 < threshold e
  late = omega (arith, facts.0)

  offset_is : offset e ≡ pos (19 + length es)
  offset_is =
      let all : length es ≡ length (drop 1 es) + 1 = ap length l.begins_with ∙ omega arith in
      facts.1 ∙ rw (last-offset l.first (drop 1 es) 19 l.later l.is_19) (ap pos (omega arith))

same : (es : List Entry) (e : Entry) (run : List Entry) → regular es ≡ true → join_refusal es e ≡ 0
    → SameByLists (gps_from e) (utc_from e) es (after joined es (e ∷ run))
same es e run r z =
    let (rest, is) = begins es e run z in
    subst (SameByLists (gps_from e) (utc_from e) es) (sym is) (same_before_lem es e rest r (offset_is es e r z) (late es e r z))

pub added_entries : AddedEntries
unfolding neighbours join_refusal last_or lookup in_force
added_entries = record {
  same = same;
  same_scales = λ es e run r z. other_scales (gps_from e) (utc_from e) es (after joined es (e ∷ run)) (same es e run r z);
  sharp = λ es run e r z r'.
      let fs = after joined es run in
      let is : after joined es (run ++ e ∷ []) ≡ fs ++ e ∷ [] = one_after es run e ∙ rw (eq-eqb (join_refusal fs e) 0 z) in
      subst (ChangesByLists (gps_from e) (utc_from e) fs) (sym is) (changes_from fs e r (ap regular (sym is) ∙ r'));
  not_by_any_list = (
    refl,
    (
      day_seconds * second + E - 1,
      refl,
      λ h. let same : ◌≡◌ {A = ℕ} (day_seconds * second - 1 - 18 * second) (day_seconds * second - 1 - 19 * second) = ap (value_in 0) h in omega arith,
    ),
  );
  not_by_any_entry = (
    refl,
    (
      threshold half_a_second_on + E - 20 * second,
      threshold half_a_second_on - 20 * second,
      refl,
      refl,
      refl,
    ),
  );
  not_by_the_later = (refl, refl, refl);
}
