-- What an answer of this crate says in plain values.
use Rattle.std.specs.Prelude.{ℤ, Result}
use Rattle.refusals.specs.Outcome.{Outcome, outcome_in, changed}
use Rattle.refusals.specs.declared.Refusal.{Refusal}
use Rattle.counts.specs.declared.Duration.{Duration}

abbrev pub duration_in : Result Duration Refusal → Outcome ℤ
duration_in r = changed (λ d. d.0) (outcome_in r)
