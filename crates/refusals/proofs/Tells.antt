-- The number of a refusal tells which refusal it is, and is never 0; and what a result says tells which result it is.
use mathlib.Core.Path.{◌≡◌, sym, ap, ◌∙◌}
use Rattle.std.specs.Prelude.{Result, Ok, Err}
use native.Mathlib.Omega.{arith}
use Rattle.refusals.specs.Number.{number_of}
use Rattle.refusals.specs.Outcome.{outcome_in, changed}
use Rattle.refusals.specs.declared.Refusal.{Refusal}
use Rattle.refusals.proofs.Numbered.{numbered, numbered_again}

pub number_tells : (r s : Refusal) → number_of r ≡ number_of s → r ≡ s
number_tells r s e = sym (numbered_again r) ∙ ap numbered e ∙ numbered_again s

-- the refusal of number 0 would be the first, whose number is 1
pub number_not_zero : (r : Refusal) → number_of r ≡ 0 → ⊥
unfolding numbered
number_not_zero r e =
    let one_is_zero : number_of (numbered 0) ≡ 0 = ap number_of (ap numbered (sym e) ∙ numbered_again r) ∙ e in
    omega (arith, one_is_zero)

pub outcome_tells : {A : Type 0} (x y : Result A Refusal) → outcome_in x ≡ outcome_in y → x ≡ y
outcome_tells (Ok a) (Ok b) e = cc
outcome_tells (Ok a) (Err r) e = cc
outcome_tells (Err r) (Ok b) e = cc
outcome_tells (Err r) (Err s) e = ap Err (number_tells r s (cc))

-- the same where an answer is told by a view of it
pub changed_tells : {A B : Type 0} (view : A → B) → ((a b : A) → view a ≡ view b → a ≡ b)
    → (x y : Result A Refusal) → changed view (outcome_in x) ≡ changed view (outcome_in y) → x ≡ y
changed_tells view tells (Ok a) (Ok b) e = ap Ok (tells a b (cc))
changed_tells view tells (Ok a) (Err r) e = cc
changed_tells view tells (Err r) (Ok b) e = cc
changed_tells view tells (Err r) (Err s) e = ap Err (number_tells r s (cc))
