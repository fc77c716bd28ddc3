-- What the bytes of an input leave begun and have written, piece by piece. Only the contracts of functions in `inner`
-- and of the programs' own functions cite these definitions: what they come to for a whole input is in
-- proofs/WholeInput.antt.
use Rattle.std.specs.Prelude.{◌≡◌, ℕ, ◌+◌, ◌-◌, ◌≤◌, cond, List, [], ◌∷◌, ◌++◌, eqb, ltb, length, take, drop}
use Rattle.lines.specs.OutcomeLine.{Puts}
use Rattle.lines.specs.declared.inner.find.Answered.{Answered}

-- a line that has begun, and a byte more: at most 128 of its bytes are kept
abbrev pub grown : List ℕ → ℕ → List ℕ
grown c b = cond (eqb b 10) [] (cond (ltb (length c) 128) (c ++ (b ∷ [])) c)

-- the line that is begun after a piece
abbrev pub begun_after : List ℕ → List ℕ → List ℕ
begun_after c [] = c
begun_after c (b ∷ bs) = begun_after (grown c b) bs

-- what a piece has written: the answer to a line at each byte 10
abbrev pub written : (List ℕ → List ℕ) → List ℕ → List ℕ → List ℕ
written f c [] = []
written f c (b ∷ bs) = cond (eqb b 10) (f c) [] ++ written f (grown c b) bs

-- of a line buffer and an output, before and after a piece: the buffer holds the line that is begun, the output what is
-- written
pub record Answers (f : List ℕ → List ℕ) (c piece out line' : List ℕ) (used' : ℕ) (out' : List ℕ) (made : ℕ) : Type 0 where
  pub held : used' ≤ 128
  pub begins : take used' line' ≡ begun_after c piece
  pub writes : Puts (written f c piece) out out' made

-- the bytes of a block that are taken are answered, and they are all of them unless the room for one more answer, of
-- the longest, is missing
pub record AnswersBlock (longest : ℕ) (f : List ℕ → List ℕ) (c block out line' out' : List ℕ) (r : Answered) : Type 0 where
  pub within : r.taken ≤ length block
  pub room : r.made ≤ length out
  pub taken : Answers f c (take r.taken block) out line' r.used out' r.made
  pub all : r.made + longest ≤ length out → r.taken ≡ length block

-- the line of which `used` bytes are in the line buffer, and the rest in a block from `at` to `end`
abbrev pub line_up_to : List ℕ → ℕ → List ℕ → ℕ → ℕ → List ℕ
line_up_to line used block at end = take used line ++ take (end - at) (drop at block)

-- a line buffer holds the first 128 bytes of a line
abbrev pub Keeps : List ℕ → List ℕ → ℕ → Type 0
Keeps l line' used' = (take used' line' ≡ take 128 l) × (used' ≤ 128)
