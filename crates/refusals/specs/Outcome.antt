-- What a call gives, in plain values: its answer, or the number of its refusal.
use Rattle.std.specs.Prelude.{◌≡◌, cond, ℕ, eqb, Result, Ok, Err}
use Rattle.refusals.specs.Number.{number_of}
use Rattle.refusals.specs.declared.Refusal.{Refusal}

pub data Outcome (A : Type 0) : Type 0 where
  answered : A → Outcome A
  refused : ℕ → Outcome A

-- what a result says in plain values
abbrev pub outcome_in : {A : Type 0} → Result A Refusal → Outcome A
outcome_in (Ok a) = answered a
outcome_in (Err r) = refused (number_of r)

-- the number that a host is given: 0 with an answer
abbrev pub refusal_in : {A : Type 0} → Outcome A → ℕ
refusal_in (answered a) = 0
refusal_in (refused k) = k

-- the value that a host is given: zeros with a refusal
abbrev pub value_in : {A : Type 0} → A → Outcome A → A
value_in zeros (answered a) = a
value_in zeros (refused k) = zeros

-- a host is given the number and the value of an outcome
abbrev pub Gives : {A : Type 0} → A → Outcome A → ℕ → A → Type 0
Gives zeros o number value = (number ≡ refusal_in o) × (value ≡ value_in zeros o)

-- one step and then another, or the refusal of the first
abbrev pub then : {A B : Type 0} → Outcome A → (A → Outcome B) → Outcome B
then (answered a) next = next a
then (refused k) next = refused k

-- an outcome with its answer changed
abbrev pub changed : {A B : Type 0} → (A → B) → Outcome A → Outcome B
changed f (answered a) = answered (f a)
changed f (refused k) = refused k

-- an answer, unless a refusal has a number other than 0
abbrev pub unless : {A : Type 0} → ℕ → A → Outcome A
unless k a = cond (eqb k 0) (answered a) (refused k)
