-- An accepted building makes the table of the list, which is valid; a refused one makes the table with no entry.
use Rattle.std.specs.Prelude.{Err, Ok, Result}
use mathlib.Core.Path.{◌≡◌, refl, sym, ap, ◌∙◌}
use mathlib.Core.Bool.{true}
use mathlib.Core.List.{List, [], ◌∷◌, ◌++◌, map}
use Prim.Native.Nat.{ℕ, ◌-◌, ◌≤◌}
use native.Mathlib.Omega.{arith}
use borrow.Author.Tests.{le-leb, ltb-false, ne_eqb}
use lib.Dec.{ltb}
use lib.ListN.{length, take, replicate}
use lib.Seq.{take-append_seam}
use lib.IntN.{ℤ, pos}
use Rattle.refusals.proofs.Tells.{number_not_zero}
use Rattle.refusals.specs.declared.Refusal.{Refusal}
use Rattle.tables.specs.Answers.{taken_in}
use Rattle.tables.specs.Entries.{Entry, threshold, offset, valid, checking, building_refusal}
use Rattle.tables.specs.Slots.{paired, entries_of, valid_table, no_expiry, table_of, built}
use Rattle.tables.specs.declared.LeapTable.{LeapTable}
use Rattle.tables.proofs.Neighbours.{passes_valid}
use Rattle.tables.proofs.Growing.{not_too_long}
use Rattle.tables.proofs.LeapTable.from_lists.Reads as from_lists_contract

-- the table after an accepted building: the list itself, its length that list's length, and no expiry
pub record Builds (es : List Entry) (table : LeapTable) : Type 0 where
  pub list : entries_of table ≡ es
  pub size : table.len ≡ length es
  pub expiry : table.expiry ≡ no_expiry
  pub valid : valid_table table ≡ true

-- what a building leaves by its answer
pub record Makes (es : List Entry) (answer : Result Unit Refusal) (table : LeapTable) : Type 0 where
  pub done : answer ≡ (Ok tt) → Builds es table
  pub refused : (why : Refusal) → answer ≡ Err why → table ≡ table_of []

side_by_side : (es : List Entry) (xs : List ℕ) (zs : List ℤ)
    → paired (map threshold es ++ xs) (map offset es ++ zs) ≡ es ++ paired xs zs
unfolding paired
side_by_side [] xs zs = refl
side_by_side (e ∷ es) xs zs = ap (λ (fs : List Entry). e ∷ fs) (side_by_side es xs zs)

pub table_list : (es : List Entry) → entries_of (table_of es) ≡ es
table_list es =
    let xs = replicate {A = ℕ} (64 - length es) 0 in
    let zs = replicate (64 - length es) (pos 0) in
    ap (take (length es)) (side_by_side es xs zs) ∙ take-append_seam es (paired xs zs)

pub table_valid : (es : List Entry) → length es ≤ 64 → valid es ≡ true → valid_table (table_of es) ≡ true
table_valid es l v = rw (le-leb (length es) 64 l, table_list es) v

-- a list that the check takes is valid
checked_valid : (es : List Entry) → checking es ≡ 0 → valid es ≡ true
unfolding checking
checked_valid [] z = absurd (omega arith)
checked_valid (e ∷ es) z = passes_valid (e ∷ es) z

module _ (es : List Entry) where
  pub building_refused : ((built es).0 ≡ 0 → ⊥) → (built es).1 ≡ table_of []
  building_refused n = rw (ne_eqb (building_refusal es) 0 n)

  pub building_builds : (built es).0 ≡ 0 → Builds es (built es).1
  building_builds z =
      let h = not_too_long (ltb 64 (length es)) z in
      let v = table_valid es (ltb-false 64 (length es) h.0) (checked_valid es h.1) in
      rw z (record { list = table_list es; size = refl; expiry = refl; valid = v })

  -- whatever gives the number and the table of the definition
  pub makes : (answer : Result Unit Refusal) (table : LeapTable) → (taken_in answer, table) ≡ built es → Makes es answer table
  makes answer table is =
      let number : taken_in answer ≡ (built es).0 = ap (λ (x : ℕ × LeapTable). x.0) is in
      let made : table ≡ (built es).1 = ap (λ (x : ℕ × LeapTable). x.1) is in
      record {
        done = λ d. rw made (building_builds (sym number ∙ ap taken_in d));
        refused = λ why r. made ∙ building_refused (λ z. number_not_zero why (sym (ap taken_in r) ∙ number ∙ z));
      }

-- the call does, by its contract
pub from-lists : (κ : _) (a : _) (x : _) (end : _) → from_lists_contract.Post κ a x end
    → Makes (paired a.0.now a.1.0.now) x.answer x.table
from-lists κ a x end post = makes (paired a.0.now a.1.0.now) x.answer x.table post
