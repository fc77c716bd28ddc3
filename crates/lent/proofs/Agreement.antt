-- The lent forms agree with the calls by value: both answer by the same definitions.
use Rattle.std.specs.Prelude.{Result, ℤ}
use mathlib.Core.Path.{◌≡◌, sym, ap, ◌∙◌}
use mathlib.Core.Bool.{false}
use mathlib.Core.List.{List}
use Prim.Native.Nat.{ℕ, ◌≤◌}
use borrow.Author.Tests.{le-leb, le-ltb}
use lib.ListN.{length}
use Rattle.tables.specs.declared.Dated.{Dated}
use Rattle.refusals.specs.declared.Refusal.{Refusal}
use Rattle.refusals.proofs.Tells.{outcome_tells}
use Rattle.refusals.specs.Outcome.{Outcome, answered}
use Rattle.tables.specs.Answers.{taken_in, table_answer_in, dated_in}
use Rattle.tables.specs.Entries.{Entry, offset_at, checking}
use Rattle.tables.specs.Slots.{entries_of, of_valid, extended, built}
use Rattle.tables.specs.Expiry.{stale_at, by_table}
use Rattle.tables.specs.declared.LeapEntry.{LeapEntry}
use Rattle.tables.specs.declared.LeapTable.{LeapTable}
use Rattle.tables.specs.declared.TableAnswer.{TableAnswer}
use Rattle.tables.proofs.Buildings.{Builds, building_builds}
use Rattle.tables.proofs.Stale.{answer-kept}
use Rattle.tables.proofs.Tells.{taken_tells}
use Rattle.lent.specs.Lists.{of_valid_list}

-- a table's own entries, lent as a list, are refused 8 exactly where the table is: what is answered of the one is
-- answered of the other
abbrev pub RefusedAlike : Type 1
RefusedAlike = (A : Type 0) (t : LeapTable) (a : Outcome A) → t.len ≤ 64 → of_valid_list (entries_of t) a ≡ of_valid t a

-- so they are looked up at every reading as the table is
abbrev pub LookedUpAlike : Type 0
LookedUpAlike =
    (t : LeapTable) (reading : ℕ) → t.len ≤ 64
    → of_valid_list (entries_of t) (answered (offset_at (entries_of t) reading))
    ≡ of_valid t (answered (offset_at (entries_of t) reading))

-- and two answers that meet the contracts of the two lookups are the same offset; of the list it is never stale
abbrev pub AnsweredAlike : Type 0
AnsweredAlike =
    (t : LeapTable) (reading : ℕ) (lent by_value : Dated ℤ) → t.len ≤ 64
    → dated_in lent ≡ (of_valid_list (entries_of t) (answered (offset_at (entries_of t) reading)), false)
    → dated_in by_value ≡ by_table t reading (answered (offset_at (entries_of t) reading))
    → lent.answer ≡ by_value.answer

-- the check of at most 64 entries gives the number that building from them gives: 0, or the same refusal
abbrev pub CheckedAlike : Type 0
CheckedAlike = (es : List Entry) → length es ≤ 64 → checking es ≡ (built es).0

-- where it gives 0, the table that is built holds the list
abbrev pub CheckedBuilds : Type 0
CheckedBuilds = (es : List Entry) → length es ≤ 64 → checking es ≡ 0 → Builds es (built es).1

-- and answers that meet the contracts of the check and of building are the same
abbrev pub JudgedAlike : Type 0
JudgedAlike =
    (es : List Entry) (checked : Result Unit Refusal) (x : TableAnswer) → length es ≤ 64
    → taken_in checked ≡ checking es → table_answer_in x ≡ built es → checked ≡ x.answer

-- an extension in place gives the answer of the extension by value, and leaves its table
abbrev pub ExtendedAlike : Type 0
ExtendedAlike =
    (t : LeapTable) (e : LeapEntry) (lent : Result Unit Refusal) (after : LeapTable) (by_value : TableAnswer)
    → (taken_in lent, after) ≡ extended t e → table_answer_in by_value ≡ extended t e
    → (lent ≡ by_value.answer) × (after ≡ by_value.table)

pub refused_alike : RefusedAlike
refused_alike A t a few = rw (le-leb t.len 64 few)

pub looked_up_alike : LookedUpAlike
looked_up_alike t reading few = refused_alike _ t (answered (offset_at (entries_of t) reading)) few

pub answered_alike : AnsweredAlike
answered_alike t reading lent by_value few p q =
    let found = answered (offset_at (entries_of t) reading) in
    outcome_tells lent.answer by_value.answer
    ((λ i. (p i).0) ∙ looked_up_alike t reading few
    ∙ sym ((λ i. (q i).0) ∙ answer-kept (stale_at t.expiry reading) (of_valid t found)))

pub checked_alike : CheckedAlike
checked_alike es few = rw (le-ltb 64 (length es) few)

pub checked_builds : CheckedBuilds
checked_builds es few z = building_builds es (sym (checked_alike es few) ∙ z)

pub judged-alike : JudgedAlike
judged-alike es checked x few p q =
    taken_tells checked x.answer (p ∙ checked_alike es few ∙ sym (ap (λ (v : ℕ × LeapTable). v.0) q))

pub extended-alike : ExtendedAlike
extended-alike t e lent after by_value p q =
    let same = p ∙ sym q in
    (taken_tells lent by_value.answer (ap (λ (v : ℕ × LeapTable). v.0) same), ap (λ (v : ℕ × LeapTable). v.1) same)
