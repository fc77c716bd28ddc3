-- Steps, one after the other: an answer goes on to the next, and a refusal ends there.
use mathlib.Core.Path.{◌≡◌, refl, ap}
use Prim.Native.Nat.{ℕ}
use Rattle.refusals.specs.Outcome.{Outcome, answered, refused, then, changed}

module _ {A B : Type 0} {o : Outcome A} (next : A → Outcome B) where
  pub goes_on : {a : A} → o ≡ answered a → then o next ≡ next a
  goes_on e = ap (λ (x : Outcome A). then x next) e

  pub stops : {k : ℕ} → o ≡ refused k → then o next ≡ refused k
  stops e = ap (λ (x : Outcome A). then x next) e

module _ {A B C : Type 0} where
  -- three steps may be grouped either way
  pub then-then : (o : Outcome A) (f : A → Outcome B) (g : B → Outcome C)
      → then (then o f) g ≡ then o (λ a. then (f a) g)
  then-then (answered a) f g = refl
  then-then (refused k) f g = refl

  -- a change of the answer is a step that never refuses
  pub changed_then : (f : A → B) (o : Outcome A) (g : B → Outcome C) → then (changed f o) g ≡ then o (λ a. g (f a))
  changed_then f (answered a) g = refl
  changed_then f (refused k) g = refl

-- a step that answers what it is given changes nothing
pub then_answered : {A : Type 0} (o : Outcome A) → then o answered ≡ o
then_answered (answered a) = refl
then_answered (refused k) = refl
