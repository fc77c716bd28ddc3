-- What the test of a table's validity gives to a call: its 8, or a valid list of at most 64 entries that lie within the
-- slots.
use mathlib.Core.Path.{◌≡◌, refl, sym, ap}
use mathlib.Core.Bool.{Bool, true, false, cond}
use mathlib.Core.List.{List}
use Prim.Native.Nat.{ℕ, ◌≤◌, ◌<◌}
use native.Mathlib.Omega.{arith}
use borrow.Author.Tests.{leb-true}
use lib.Dec.{leb}
use lib.ListN.{length}
use lib.IntN.{ℤ}
use Rattle.refusals.specs.Outcome.{Outcome, answered, refused, refusal_in, value_in, then, changed}
use Rattle.tables.specs.Entries.{valid, join_refusal}
use Rattle.tables.specs.Slots.{slots, entries_of, valid_slots, valid_table, of_valid, extension_refusal}
use Rattle.tables.specs.declared.LeapEntry.{LeapEntry}
use Rattle.tables.specs.declared.LeapTable.{LeapTable}
use Rattle.tables.proofs.FirstSlots.{slots_length}
use Rattle.tables.proofs.Growing.{has_room}
use Rattle.tables.proofs.Neighbours.{both}

pub few_and_valid : (xs : List ℕ) (zs : List ℤ) (n : ℕ) → valid_slots xs zs n ≡ true
    → (n ≤ 64) × (valid (slots xs zs n) ≡ true)
few_and_valid xs zs n v = let b = both (leb n 64) (valid (slots xs zs n)) v in (leb-true n 64 b.0, b.1)

pub good : {A : Type 0} (t : LeapTable) (a : Outcome A) → valid_table t ≡ true → a ≡ of_valid t a
good t a v = rw v

pub record Checked (t : LeapTable) : Type 0 where
  pub passes : valid_table t ≡ true
  pub few : t.len ≤ 64
  pub in_thresholds : t.len ≤ length t.thresholds
  pub in_offsets : t.len ≤ length t.offsets
  pub is_valid : valid (entries_of t) ≡ true

pub checked : (t : LeapTable) → length t.thresholds ≡ 64 → length t.offsets ≡ 64 → valid_table t ≡ true → Checked t
checked t h h' v =
    let k = few_and_valid t.thresholds t.offsets t.len v in
    record { passes = v; few = k.0; in_thresholds = omega arith; in_offsets = omega arith; is_valid = k.1 }

module _ {t : LeapTable} (k : Checked t) where
  pub length_is : length (entries_of t) ≡ t.len
  length_is = slots_length t.thresholds t.offsets t.len k.in_thresholds k.in_offsets

  pub answers : {A : Type 0} {a b : A} → b ≡ a → answered a ≡ of_valid t (answered b)
  answers e = rw k.passes (ap answered (sym e))

-- 8 stays first where a step follows
module _ {A B : Type 0} where
  pub eight_first : (next : A → Outcome B) (v : Bool) (o : Outcome A)
      → then (cond v o (refused 8)) next ≡ cond v (then o next) (refused 8)
  eight_first next true o = refl
  eight_first next false o = refl

  pub eight_changed : (f : A → B) (v : Bool) (o : Outcome A)
      → changed f (cond v o (refused 8)) ≡ cond v (changed f o) (refused 8)
  eight_changed f true o = refl
  eight_changed f false o = refl

-- an answer tells that the table is valid, and what was answered
module _ {A : Type 0} (a : A) where
  pub told-valid : (v : Bool) {b : A} → answered b ≡ cond v (answered a) (refused 8) → v ≡ true
  told-valid true e = refl
  told-valid false e = absurd (omega (arith, ap refusal_in e))

  pub told-answer : (v : Bool) {b : A} → answered b ≡ cond v (answered a) (refused 8) → b ≡ a
  told-answer true e = ap (value_in a) e
  told-answer false e = absurd (omega (arith, ap refusal_in e))

  pub told_refusal : {B : Type 0} (v : Bool) {k : ℕ} (o : Outcome B) → refused k ≡ cond v (answered a) (refused 8)
      → refused k ≡ cond v o (refused 8)
  told_refusal true o e = cc
  told_refusal false o e = ap (λ (x : Outcome A). refused (refusal_in x)) e

-- a table that takes an entry has room for it
pub room_for : (t : LeapTable) (e : LeapEntry) → length t.thresholds ≡ 64 → length t.offsets ≡ 64
    → 0 ≡ extension_refusal t e → t.len < 64
room_for t e h h' z = by_test (valid_table t) refl z
  where
    by_test : (b : Bool) → valid_table t ≡ b → 0 ≡ cond b (join_refusal (entries_of t) e) 8 → t.len < 64
    by_test true v z = let k = checked t h h' v in has_room t.thresholds t.offsets t.len e k.in_thresholds k.in_offsets z
    by_test false v z = absurd (omega (arith, z))

-- slots of a table tell that it is valid, and its list
pub told : (t : LeapTable) {es : List LeapEntry} → answered es ≡ of_valid t (answered (entries_of t))
    → (valid_table t ≡ true) × (es ≡ entries_of t)
told t e = (told-valid (entries_of t) (valid_table t) e, told-answer (entries_of t) (valid_table t) e)
