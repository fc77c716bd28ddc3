-- Each call of this crate leaves one answer for each input, and the extension in place one table afterwards.
use mathlib.Core.Path.{◌≡◌, refl, sym, ap, ◌∙◌}
use mathlib.Core.Bool.{false}
use Prim.Native.Nat.{ℕ}
use lib.Dec.{eqb}
use lib.ListN.{length}
use Rattle.refusals.proofs.Tells.{outcome_tells}
use Rattle.refusals.specs.Outcome.{answered, outcome_in}
use Rattle.refusals.proofs.OneAnswer.{OneAnswer, viewed}
use Rattle.tables.specs.Answers.{taken_in, update_in, dated_in}
use Rattle.tables.specs.Entries.{checking, offset_at, current_offset, last_update}
use Rattle.tables.specs.Slots.{extended}
use Rattle.tables.specs.declared.LeapTable.{LeapTable}
use Rattle.tables.proofs.Tells.{taken_tells, extension_tells, update_tells, dated_tells}
use Rattle.lent.specs.Lists.{of_valid_list}
use Rattle.lent.specs.Copied.{ListAnswers, answers_in}
use Rattle.lent.specs.declared.inner.copied.Answers.{Answers}
use Rattle.lent.proofs.Stated.{LeavesOne, LeavesOneAndEnd}
use Rattle.lent.specs.contracts.try_from_slice as try_from_slice_call
use Rattle.lent.specs.contracts.tai_minus_utc_at as tai_minus_utc_at_call
use Rattle.lent.specs.contracts.len as len_call
use Rattle.lent.specs.contracts.is_empty as is_empty_call
use Rattle.lent.specs.contracts.last_update as last_update_call
use Rattle.lent.specs.contracts.current_tai_minus_utc as current_tai_minus_utc_call
use Rattle.lent.specs.contracts.try_extend as try_extend_call
use Rattle.lent.proofs.inner.copied.extended_in_place.Reads as extended_in_place_contract
use Rattle.lent.proofs.inner.copied.answers_of_first.Reads as answers_of_first_contract

pub try_from_slice : LeavesOne try_from_slice_call.ended (λ M 𝓤 𝓛. try_from_slice_call.clauses 𝓛)
try_from_slice = record {
  says = λ κ a r e. taken_in r ≡ checking a.0.now;
  states = λ M 𝓤 𝓛 mem run κ a g r e. refl;
  one = λ κ a x y e f p q. viewed taken_tells x y p q;
}

pub tai_minus_utc_at : LeavesOne tai_minus_utc_at_call.ended (λ M 𝓤 𝓛. tai_minus_utc_at_call.clauses 𝓛)
tai_minus_utc_at = record {
  says = λ κ a r e. dated_in r ≡ (of_valid_list a.0.now (answered (offset_at a.0.now a.1.0.0)), false);
  states = λ M 𝓤 𝓛 mem run κ a g r e. refl;
  one = λ κ a x y e f p q. viewed dated_tells x y p q;
}

pub len : LeavesOne len_call.ended (λ M 𝓤 𝓛. len_call.clauses 𝓛)
len = record {
  says = λ κ a r e. outcome_in r ≡ of_valid_list a.0.now (answered (length a.0.now));
  states = λ M 𝓤 𝓛 mem run κ a g r e. refl;
  one = λ κ a x y e f p q. viewed outcome_tells x y p q;
}

pub is_empty : LeavesOne is_empty_call.ended (λ M 𝓤 𝓛. is_empty_call.clauses 𝓛)
is_empty = record {
  says = λ κ a r e. outcome_in r ≡ of_valid_list a.0.now (answered (eqb (length a.0.now) 0));
  states = λ M 𝓤 𝓛 mem run κ a g r e. refl;
  one = λ κ a x y e f p q. viewed outcome_tells x y p q;
}

pub last_update_lem : LeavesOne last_update_call.ended (λ M 𝓤 𝓛. last_update_call.clauses 𝓛)
last_update_lem = record {
  says = λ κ a r e. update_in r ≡ of_valid_list a.0.now (answered (last_update a.0.now));
  states = λ M 𝓤 𝓛 mem run κ a g r e. refl;
  one = λ κ a x y e f p q. viewed update_tells x y p q;
}

pub current_tai_minus_utc : LeavesOne current_tai_minus_utc_call.ended (λ M 𝓤 𝓛. current_tai_minus_utc_call.clauses 𝓛)
current_tai_minus_utc = record {
  says = λ κ a r e. outcome_in r ≡ of_valid_list a.0.now (answered (current_offset a.0.now));
  states = λ M 𝓤 𝓛 mem run κ a g r e. refl;
  one = λ κ a x y e f p q. viewed outcome_tells x y p q;
}

-- the table afterwards too
pub try_extend : LeavesOneAndEnd try_extend_call.ended (λ M 𝓤 𝓛. try_extend_call.clauses 𝓛) (λ κ e. e.0.now)
try_extend = record {
  says = λ κ a r e. (taken_in r, e.0.now) ≡ extended a.0.now a.1.0;
  states = λ M 𝓤 𝓛 mem run κ a g r e. refl;
  one = λ κ a x y e f p q.
      let same = p ∙ sym q in
      (taken_tells x y (ap (λ (v : ℕ × LeapTable). v.0) same), ap (λ (v : ℕ × LeapTable). v.1) same);
}

-- the answers tell which they are, each by itself
answers_tell : (x y : Answers) → answers_in x ≡ answers_in y → x ≡ y
answers_tell x y e =
    let k = taken_tells x.check y.check (ap (λ (v : ListAnswers). v.check) e) in
    let n = outcome_tells x.length y.length (ap (λ (v : ListAnswers). v.size) e) in
    let b = outcome_tells x.empty y.empty (ap (λ (v : ListAnswers). v.empty) e) in
    let u = update_tells x.update y.update (ap (λ (v : ListAnswers). v.update) e) in
    let c = outcome_tells x.current y.current (ap (λ (v : ListAnswers). v.current) e) in
    let f = dated_tells x.in_force y.in_force (ap (λ (v : ListAnswers). v.in_force) e) in
    λ i. record { check = k i; length = n i; empty = b i; update = u i; current = c i; in_force = f i }

pub extended_in_place : OneAnswer extended_in_place_contract.Post
extended_in_place κ a x y e f p q = viewed extension_tells x y p q

pub answers_of_first : OneAnswer answers_of_first_contract.Post
answers_of_first κ a x y e f p q = viewed answers_tell x y p q
