-- What is written for the lines of an input: proofs/WholeInput.antt says that this is what the blocks of a program write.
use Rattle.std.specs.Prelude.{◌≡◌, ℕ, ◌≤◌, List, [], ◌∷◌, ◌++◌, length, take}

-- the answers to lines, one after the other
abbrev pub answers : (List ℕ → List ℕ) → List (List ℕ) → List ℕ
answers f [] = []
answers f (l ∷ ls) = f l ++ answers f ls

-- what is supposed of an answer: how long the longest is, and that a line is answered as its first 128 bytes are
pub record AnswersLines (longest : ℕ) (f : List ℕ → List ℕ) : Type 0 where
  pub short : (l : List ℕ) → length (f l) ≤ longest
  pub first_128 : (l : List ℕ) → f (take 128 l) ≡ f l
