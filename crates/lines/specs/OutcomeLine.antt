-- An outcome as a line, and a text written at the start of a slice.
use Rattle.std.specs.Prelude.{◌≡◌, ℕ, cond, List, [], ◌∷◌, ◌++◌, ltb, length}
use Rattle.std.proofs.lemmas.List.Edits.{sets}
use Rattle.refusals.specs.Outcome.{Outcome, answered, refused}
use Rattle.words.specs.Decimal.{decimal}

-- the bytes of `refused `
abbrev pub refused_word : List ℕ
refused_word = 114 ∷ 101 ∷ 102 ∷ 117 ∷ 115 ∷ 101 ∷ 100 ∷ 32 ∷ []

-- the answer, or "refused " and the number
abbrev pub line_of : Outcome (List ℕ) → List ℕ
line_of (answered bytes) = bytes ++ (10 ∷ [])
line_of (refused k) = refused_word ++ (decimal k ++ (10 ∷ []))

-- a text is written at the start of a slice, and its length is told
abbrev pub Puts : List ℕ → List ℕ → List ℕ → ℕ → Type 0
Puts text out out' n = (n ≡ length text) × (out' ≡ sets out 0 text)

-- a text is written where there is room for the longest one, and else nothing
abbrev pub PutsWithRoom : ℕ → List ℕ → List ℕ → List ℕ → ℕ → Type 0
PutsWithRoom longest text out out' n = Puts (cond (ltb (length out) longest) [] text) out out' n
