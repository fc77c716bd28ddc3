-- What an answer of this crate says in plain values.
use Rattle.std.specs.Prelude.{Bool, ℕ, Option, Some, None, Result, Ok, Err}
use Rattle.std.proofs.Math.Option as maybe
use Rattle.refusals.specs.Number.{number_of}
use Rattle.refusals.specs.Outcome.{Outcome, answered, refused, outcome_in}
use Rattle.refusals.specs.declared.Refusal.{Refusal}
use Rattle.scales.specs.declared.tai.Tai.{Tai}
use Rattle.tables.specs.declared.LeapEntry.{LeapEntry}
use Rattle.tables.specs.declared.LeapTable.{LeapTable}
use Rattle.tables.specs.declared.TableAnswer.{TableAnswer}
use Rattle.tables.specs.declared.Dated.{Dated}

-- 0 where what was given was taken, else the refusal's number
abbrev pub taken_in : Result Unit Refusal → ℕ
taken_in (Ok tt) = 0
taken_in (Err r) = number_of r

-- the answer and the table
abbrev pub table_answer_in : TableAnswer → ℕ × LeapTable
table_answer_in x = (taken_in x.answer, x.table)

abbrev pub entry_in : Result (Option LeapEntry) Refusal → Outcome (maybe.Option LeapEntry)
entry_in (Ok (Some e)) = answered (maybe.some e)
entry_in (Ok None) = answered maybe.none
entry_in (Err r) = refused (number_of r)

abbrev pub update_in : Result (Option Tai) Refusal → Outcome (maybe.Option ℕ)
update_in (Ok (Some t)) = answered (maybe.some t.0)
update_in (Ok None) = answered maybe.none
update_in (Err r) = refused (number_of r)

-- by a table: what is answered, and whether the table is stale
abbrev pub dated_in : {A : Type 0} → Dated A → Outcome A × Bool
dated_in r = (outcome_in r.answer, r.stale)
