-- An accepted extension joins its entry to the list and moves no other slot, since only the slot at the length is set.
-- A refused one keeps the table.
use Rattle.std.specs.Prelude.{Err, Ok, Result}
use mathlib.Core.Path.{◌≡◌, refl, sym, ap, ◌∙◌}
use mathlib.Core.Bool.{Bool, true, false, cond}
use mathlib.Core.List.{List, [], ◌∷◌, ◌++◌, map}
use Prim.Native.Nat.{ℕ, ◌+◌, ◌-◌, ◌≤◌}
use native.Mathlib.Omega.{arith}
use native.Mathlib.Numerals.{add-one}
use borrow.Author.Tests.{le-leb, ne_eqb}
use lib.Dec.{leb}
use lib.ListN.{length, length-append, length-map, length-replicate, length-set, replicate, get_or}
use lib.Seq.{get_or-set_other}
use lib.IntN.{pos}
use Rattle.refusals.proofs.Tells.{number_not_zero}
use Rattle.refusals.specs.declared.Refusal.{Refusal}
use Rattle.tables.specs.Answers.{taken_in}
use Rattle.tables.specs.Entries.{Entry, threshold, offset, neighbours, valid, last_or, join_refusal}
use Rattle.tables.specs.Slots.{entries_of, valid_table, table_of, joined_to, extension_refusal, extended}
use Rattle.tables.specs.declared.LeapEntry.{LeapEntry}
use Rattle.tables.specs.declared.LeapTable.{LeapTable}
use Rattle.tables.proofs.FirstSlots.{one_stored}
use Rattle.tables.proofs.Neighbours.{zero_follows}
use Rattle.tables.proofs.Joining.{valid-joined}
use Rattle.tables.proofs.Checked.{checked, length_is}
use Rattle.tables.proofs.Growing.{not_too_long, has_room}
use Rattle.tables.proofs.LeapTable.try_extend.Reads as try_extend_contract

-- the arrays of a table have 64 slots each, as their type says
pub record Sized (t : LeapTable) : Type 0 where
  pub thresholds : length t.thresholds ≡ 64
  pub offsets : length t.offsets ≡ 64

-- the table after an accepted extension: the old list with the entry joined, its length, no other slot moved, the expiry
-- it had
pub record Grows (t : LeapTable) (e : LeapEntry) (after : LeapTable) : Type 0 where
  pub list : entries_of after ≡ entries_of t ++ e ∷ []
  pub size : after.len ≡ length (entries_of t ++ e ∷ [])
  pub thresholds : (i : ℕ) → (i ≡ t.len → ⊥) → get_or after.thresholds i 0 ≡ get_or t.thresholds i 0
  pub offsets : (i : ℕ) → (i ≡ t.len → ⊥) → get_or after.offsets i (pos 0) ≡ get_or t.offsets i (pos 0)
  pub expiry : after.expiry ≡ t.expiry
  pub valid : valid_table after ≡ true

-- what an extension leaves by its answer: done, the table grown by the entry; refused, the table itself
pub record Extends (t : LeapTable) (e : LeapEntry) (answer : Result Unit Refusal) (after : LeapTable) : Type 0 where
  pub done : answer ≡ (Ok tt) → Sized t → Grows t e after
  pub refused : (why : Refusal) → answer ≡ Err why → after ≡ t

-- an entry that is not refused leaves the list valid
pub stays_valid : (es : List Entry) (e : Entry) → valid es ≡ true → 0 ≡ join_refusal es e → valid (es ++ e ∷ []) ≡ true
unfolding neighbours join_refusal
stays_valid [] e v z = refl
stays_valid (p ∷ ps) e v z =
    valid-joined p ps e v (zero_follows (last_or p ps) e (not_too_long (leb 64 (length (p ∷ ps))) (sym z)).1)

module _ (t : LeapTable) (e : LeapEntry) where
  -- a refused extension keeps the table, all its slots included
  pub refusal_keeps : ((extended t e).0 ≡ 0 → ⊥) → (extended t e).1 ≡ t
  refusal_keeps n = rw (ne_eqb (extension_refusal t e) 0 n)

  accepted : extension_refusal t e ≡ 0 → (valid_table t ≡ true) × (0 ≡ join_refusal (entries_of t) e)
  accepted z = by_test (valid_table t) z
    where
      by_test : (b : Bool) {k : ℕ} → cond b k 8 ≡ 0 → (b ≡ true) × (0 ≡ k)
      by_test true z = (refl, sym z)
      by_test false z = absurd (omega arith)

  module _ (s : Sized t) where
    joined_grows : valid_table t ≡ true → 0 ≡ join_refusal (entries_of t) e → Grows t e (joined_to t e)
    joined_grows v z =
        let k = checked t s.thresholds s.offsets v in
        let room = has_room t.thresholds t.offsets t.len e k.in_thresholds k.in_offsets z in
        let list : entries_of (joined_to t e) ≡ entries_of t ++ e ∷ [] =
        rw add-one (one_stored t.thresholds t.offsets t.len _ _ (omega arith) (omega arith)) in
        record {
          list = list;
          size = sym (length-append (entries_of t) (e ∷ []) ∙ ap (λ (n : ℕ). n + 1) (length_is k));
          thresholds = λ i n. get_or-set_other t.thresholds t.len i (threshold e) 0 n;
          offsets = λ i n. get_or-set_other t.offsets t.len i (offset e) (pos 0) n;
          expiry = refl;
          valid = rw (le-leb (t.len + 1) 64 (omega arith), list) (stays_valid (entries_of t) e k.is_valid z);
        }

    pub extension_grows : (extended t e).0 ≡ 0 → Grows t e (extended t e).1
    extension_grows z = rw z (joined_grows (accepted z).0 (accepted z).1)

  -- whatever gives the number and the table of the definition
  pub extends : (answer : Result Unit Refusal) (after : LeapTable) → (taken_in answer, after) ≡ extended t e → Extends t e answer after
  extends answer after is =
      let number : taken_in answer ≡ (extended t e).0 = ap (λ (x : ℕ × LeapTable). x.0) is in
      let table : after ≡ (extended t e).1 = ap (λ (x : ℕ × LeapTable). x.1) is in
      record {
        done = λ d s. rw table (extension_grows s (sym number ∙ ap taken_in d));
        refused = λ why r. table ∙ refusal_keeps (λ z. number_not_zero why (sym (ap taken_in r) ∙ number ∙ z));
      }

-- the call by value does, by its contract
pub try_extend : (κ : _) (a : _) (x : _) (end : _) → try_extend_contract.Post κ a x end
    → Extends a.0 a.1.0 x.answer x.table
try_extend κ a x end post = extends a.0 a.1.0 x.answer x.table post

-- every table that is made has its 64 slots, and an extension keeps them
filled : {A : Type 0} (f : Entry → A) (d : A) (es : List Entry) → length es ≤ 64
    → length (map f es ++ replicate (64 - length es) d) ≡ 64
filled f d es short =
    length-append (map f es) (replicate (64 - length es) d)
    ∙ (λ i. length-map es f i + length-replicate (64 - length es) d i)
    ∙ omega arith

pub made_sized : (es : List Entry) → length es ≤ 64 → Sized (table_of es)
made_sized es short = record { thresholds = filled threshold 0 es short; offsets = filled offset (pos 0) es short }

pub joined-sized : (t : LeapTable) (e : LeapEntry) → Sized t → Sized (joined_to t e)
joined-sized t e s = record {
  thresholds = length-set t.thresholds t.len (threshold e) ∙ s.thresholds;
  offsets = length-set t.offsets t.len (offset e) ∙ s.offsets;
}
