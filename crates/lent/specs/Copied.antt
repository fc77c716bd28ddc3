-- What every call answers for one list. Only contracts of functions in `inner` cite it.
use Rattle.std.specs.Prelude.{Bool, false, List, ℕ, eqb, length, ℤ}
use Rattle.std.proofs.Math.Option.{Option}
use Rattle.refusals.specs.Outcome.{Outcome, answered, outcome_in}
use Rattle.tables.specs.Answers.{taken_in, update_in, dated_in}
use Rattle.tables.specs.Entries.{Entry, checking, offset_at, current_offset, last_update}
use Rattle.lent.specs.Lists.{of_valid_list}
use Rattle.lent.specs.declared.inner.copied.Answers.{Answers}

pub record ListAnswers : Type 0 where
  pub check : ℕ
  pub size : Outcome ℕ
  pub empty : Outcome Bool
  pub update : Outcome (Option ℕ)
  pub current : Outcome ℤ
  pub in_force : Outcome ℤ × Bool

abbrev pub answers_in : Answers → ListAnswers
answers_in r = record {
  check = taken_in r.check;
  size = outcome_in r.length;
  empty = outcome_in r.empty;
  update = update_in r.update;
  current = outcome_in r.current;
  in_force = dated_in r.in_force;
}

-- a list, at a TAI reading
abbrev pub answers_of : List Entry → ℕ → ListAnswers
answers_of es t = record {
  check = checking es;
  size = of_valid_list es (answered (length es));
  empty = of_valid_list es (answered (eqb (length es) 0));
  update = of_valid_list es (answered (last_update es));
  current = of_valid_list es (answered (current_offset es));
  in_force = (of_valid_list es (answered (offset_at es t)), false);
}
