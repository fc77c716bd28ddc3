-- What an answer says in plain values tells which answer it is.
use Rattle.std.specs.Prelude.{Option, Some, None, Result, Ok, Err, is_ok}
use mathlib.Core.Path.{◌≡◌, refl, sym, ap}
use borrow.Author.Tests.{ne_eqb}
use lib.Dec.{eqb}
use Rattle.refusals.specs.Number.{number_of}
use Rattle.tables.specs.declared.Dated.{Dated}
use Rattle.refusals.specs.declared.Refusal.{Refusal}
use Rattle.refusals.proofs.Tells.{outcome_tells, number_tells, number_not_zero}
use Rattle.scales.proofs.Tells.{tai_count_tells}
use Rattle.tables.specs.Answers.{taken_in, table_answer_in, entry_in, update_in, dated_in}
use Rattle.tables.specs.declared.TableAnswer.{TableAnswer}
use Rattle.tables.specs.declared.LeapEntry.{LeapEntry}
use Rattle.scales.specs.declared.tai.Tai.{Tai}

pub taken_tells : (x y : Result Unit Refusal) → taken_in x ≡ taken_in y → x ≡ y
taken_tells (Ok a) (Ok b) e = refl
taken_tells (Ok tt) (Err r) e = absurd (number_not_zero r (sym e))
taken_tells (Err r) (Ok tt) e = absurd (number_not_zero r e)
taken_tells (Err r) (Err s) e = ap Err (number_tells r s e)

-- what was given was taken exactly if the result is `Ok`
pub done_told : (x : Result Unit Refusal) → is_ok x ≡ eqb (taken_in x) 0
done_told (Ok tt) = refl
done_told (Err r) = sym (ne_eqb (number_of r) 0 (number_not_zero r))

-- the answer and the table
pub extension_tells : (x y : TableAnswer) → table_answer_in x ≡ table_answer_in y → x ≡ y
extension_tells x y e =
    λ i. record { answer = taken_tells x.answer y.answer (λ j. (e j).0) i; table = (e i).1 }

pub entry_tells : (x y : Result (Option LeapEntry) Refusal) → entry_in x ≡ entry_in y → x ≡ y
entry_tells (Ok (Some a)) (Ok (Some b)) e = cc
entry_tells (Ok (Some a)) (Ok None) e = cc
entry_tells (Ok (Some a)) (Err r) e = cc
entry_tells (Ok None) (Ok (Some b)) e = cc
entry_tells (Ok None) (Ok None) e = cc
entry_tells (Ok None) (Err r) e = cc
entry_tells (Err r) (Ok (Some b)) e = cc
entry_tells (Err r) (Ok None) e = cc
entry_tells (Err r) (Err s) e = ap Err (number_tells r s (cc))

pub update_tells : (x y : Result (Option Tai) Refusal) → update_in x ≡ update_in y → x ≡ y
update_tells (Ok (Some a)) (Ok (Some b)) e = ap (λ t. Ok (Some t)) (tai_count_tells a b (cc))
update_tells (Ok (Some a)) (Ok None) e = cc
update_tells (Ok (Some a)) (Err r) e = cc
update_tells (Ok None) (Ok (Some b)) e = cc
update_tells (Ok None) (Ok None) e = cc
update_tells (Ok None) (Err r) e = cc
update_tells (Err r) (Ok (Some b)) e = cc
update_tells (Err r) (Ok None) e = cc
update_tells (Err r) (Err s) e = ap Err (number_tells r s (cc))

pub dated_tells : {A : Type 0} (x y : Dated A) → dated_in x ≡ dated_in y → x ≡ y
dated_tells x y e = λ i. record { answer = outcome_tells x.answer y.answer (λ j. (e j).0) i; stale = (e i).1 }
