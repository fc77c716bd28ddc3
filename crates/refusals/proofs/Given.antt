-- What a host is given of an outcome, and what it can tell from that.
use mathlib.Core.Path.{◌≡◌, ap, ◌∙◌}
use mathlib.Core.Logic.{◌≢◌}
use Prim.Native.Nat.{ℕ}
use native.Mathlib.Omega.{arith}
use borrow.Author.Tests.{ne_eqb}
use Rattle.refusals.specs.Outcome.{Outcome, answered, refused, refusal_in, value_in, Gives, unless}

-- an answer, or a refusal whose number is not 0
abbrev pub Numbered : {A : Type 0} → Outcome A → Type 0
Numbered (answered a) = Unit {0}
Numbered (refused k) = k ≢ 0

module _ {A : Type 0} (zeros : A) {n : ℕ} {v : A} where
  pub gives_same : {o q : Outcome A} → o ≡ q → Gives zeros o n v → Gives zeros q n v
  gives_same e g = (g.0 ∙ ap refusal_in e, g.1 ∙ ap (value_in zeros) e)

  -- a step from an outcome, and then one that gives
  pub gives_step : {B : Type 0} (f : Outcome B → Outcome A) {o : Outcome A} {p q : Outcome B}
      → o ≡ f p → p ≡ q → Gives zeros o n v → Gives zeros (f q) n v
  gives_step f last first = gives_same (last ∙ ap f first)

  -- the number and the value tell the outcome
  pub told_is : (o : Outcome A) → Numbered o → Gives zeros o n v → unless n v ≡ o
  told_is (answered a) numbered (number, value) = rw (number, value)
  told_is (refused k) numbered (number, value) = rw (number, ne_eqb k 0 numbered)

-- a number other than 0 comes with zeros
pub zeros_on_refusal : {A : Type 0} {zeros v : A} {n : ℕ} (o : Outcome A) → Gives zeros o n v → n ≢ 0 → v ≡ zeros
zeros_on_refusal (answered a) (number, value) not_done = absurd (not_done number)
zeros_on_refusal (refused k) (number, value) not_done = value

-- a number and what is left are a pair x: what x leaves of a refusal is left
pub left_on_refusal : {A : Type 0} {n : ℕ} {left due : A} {x : ℕ × A}
    → (x.0 ≢ 0 → x.1 ≡ due) → (n, left) ≡ x → n ≢ 0 → left ≡ due
left_on_refusal {A = A} leaves p not_done =
    ap (λ (y : ℕ × A). y.1) p ∙ leaves (λ z. not_done (ap (λ (y : ℕ × A). y.0) p ∙ z))

-- an outcome is one answer, or a refusal
module _ {A : Type 0} {a : A} (o : Outcome A) where
  pub one_answer : {b : A} → o ≡ answered a → o ≡ answered b → a ≡ b
  one_answer p q = cc

  pub no_refusal : {k : ℕ} → o ≡ answered a → o ≡ refused k → ⊥
  no_refusal p q = let z : ◌≡◌ {A = ℕ} 0 1 = cc in omega arith
