-- The lines of a text.
use Rattle.std.specs.Prelude.{ℕ, cond, List, [], ◌∷◌, eqb}

-- lines, with a byte put in front of the first
abbrev pub prepend_byte : ℕ → List (List ℕ) → List (List ℕ)
prepend_byte b [] = (b ∷ []) ∷ []
prepend_byte b (l ∷ ls) = (b ∷ l) ∷ ls

-- a line ends at byte 10 or at the end of the text; there is none after the last byte 10
abbrev pub lines_of : List ℕ → List (List ℕ)
lines_of [] = []
lines_of (b ∷ bs) = cond (eqb b 10) ([] ∷ lines_of bs) (prepend_byte b (lines_of bs))
