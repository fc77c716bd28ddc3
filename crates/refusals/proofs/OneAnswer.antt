-- What it is for the contract of a call to leave one answer for each input.
-- A contract is read here as the checker reads it: a statement of the call's lifetimes, its arguments, its answer and
-- what the arguments are at its end.
use mathlib.Core.Path.{◌≡◌, sym, ◌∙◌}

module _ {Lifetimes : Type 0} {Arguments Answer End : Lifetimes → Type 0} where
  -- two answers to the same arguments that both meet the contract are equal
  abbrev pub OneAnswer : ((κ : Lifetimes) → Arguments κ → Answer κ → End κ → Type 0) → Type 0
  OneAnswer Contract =
      (κ : Lifetimes) (a : Arguments κ) (x y : Answer κ) (e f : End κ)
      → Contract κ a x e → Contract κ a y f → x ≡ y

  -- and what they write through references is equal too
  abbrev pub OneAnswerAndEnd : {Left : Type 0} → ((κ : Lifetimes) → Arguments κ → Answer κ → End κ → Type 0)
      → ((κ : Lifetimes) → End κ → Left) → Type 0
  OneAnswerAndEnd Contract left =
      (κ : Lifetimes) (a : Arguments κ) (x y : Answer κ) (e f : End κ)
      → Contract κ a x e → Contract κ a y f → (x ≡ y) × (left κ e ≡ left κ f)

-- two equations each leave one answer and one value
pub both : {A B : Type 0} {x y a : A} {u v b : B} → (x ≡ a) × (u ≡ b) → (y ≡ a) × (v ≡ b) → (x ≡ y) × (u ≡ v)
both p q = (p.0 ∙ sym q.0, p.1 ∙ sym q.1)

-- a contract that gives a view of the answer by a definition leaves one answer, where the view tells answers apart
pub viewed : {A B : Type 0} {view : A → B} {d : B} → ((x y : A) → view x ≡ view y → x ≡ y) → (x y : A) → view x ≡ d
    → view y ≡ d → x ≡ y
viewed tells x y p q = tells x y (p ∙ sym q)
