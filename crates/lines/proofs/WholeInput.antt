-- What is written for a whole input is the answers to its lines, wherever it is cut: a piece goes on with the line that
-- those before it left begun.
use mathlib.Core.Path.{◌≡◌, refl, sym, ap, ◌∙◌}
use mathlib.Core.Bool.{Bool, true, false}
use mathlib.Core.List.{List, [], ◌∷◌, ◌++◌, append-nil, append_assoc}
use Prim.Native.Nat.{ℕ, ◌≤◌, ◌<◌}
use native.Mathlib.Decide.{dec_le}
use native.Mathlib.Omega.{arith}
use lib.Dec.{eqb}
use lib.ListN.{length, take}
use lib.Seq.{take_all, length-take-le}
use Rattle.texts.specs.Lines.{prepend_byte, lines_of}
use Rattle.lines.specs.Lines.{answers, AnswersLines}
use Rattle.lines.specs.Pieces.{begun_after, written}
use Rattle.lines.proofs.Cutting.{begun_joins, written_joins, clipped}

-- ---- the statement
-- an input, cut into blocks
abbrev pub joined : List (List ℕ) → List ℕ
joined [] = []
joined (b ∷ bs) = b ++ joined bs

-- at the end of the input a line that is begun ends
abbrev pub at_end : (List ℕ → List ℕ) → List ℕ → List ℕ
at_end f [] = []
at_end f (b ∷ bs) = written f (b ∷ bs) (10 ∷ [])

-- what is written for one block after another, each with the line that the one before left begun
abbrev pub written_by_blocks : (List ℕ → List ℕ) → List ℕ → List (List ℕ) → List ℕ
written_by_blocks f c [] = at_end f c
written_by_blocks f c (b ∷ bs) = written f c b ++ written_by_blocks f (begun_after c b) bs

-- it is the answers to the lines of the input, wherever it is cut
abbrev pub CutAnywhere : (List ℕ → List ℕ) → Type 0
CutAnywhere f = (blocks : List (List ℕ)) → written_by_blocks f [] blocks ≡ answers f (lines_of (joined blocks))

-- ---- blocks
all_at_once : (f : List ℕ → List ℕ) (c : List ℕ) (bs : List (List ℕ))
    → written_by_blocks f c bs ≡ written f c (joined bs) ++ at_end f (begun_after c (joined bs))
all_at_once f c [] = refl
all_at_once f c (b ∷ bs) = rw (written_joins, begun_joins, append_assoc, all_at_once f (begun_after c b) bs)

-- ---- lines
-- a line that is begun, before the lines of the rest
abbrev before : List ℕ → List (List ℕ) → List (List ℕ)
before [] ls = ls
before (x ∷ xs) [] = (x ∷ xs) ∷ []
before (x ∷ xs) (l ∷ ls) = ((x ∷ xs) ++ l) ∷ ls

before-byte : (u : List ℕ) (b : ℕ) (ls : List (List ℕ)) → before (u ++ (b ∷ [])) ls ≡ before u (prepend_byte b ls)
before-byte [] b [] = refl
before-byte [] b (l ∷ ls) = refl
before-byte (x ∷ xs) b [] = refl
before-byte (x ∷ xs) b (l ∷ ls) = ap (λ (k : List ℕ). (x ∷ k) ∷ ls) (append_assoc xs (b ∷ []) l)

module _ {longest : ℕ} (f : List ℕ → List ℕ) (are : AnswersLines longest f) where
  last_line : (u : List ℕ) → at_end f (take 128 u) ≡ answers f (before u [])
  last_line [] = refl
  last_line (x ∷ xs) = rw (are.first_128 (x ∷ xs))

  ended-line : (u : List ℕ) (ls : List (List ℕ)) → f (take 128 u) ++ answers f ls ≡ answers f (before u ([] ∷ ls))
  ended-line [] ls = refl
  ended-line (x ∷ xs) ls = rw (append-nil, are.first_128 (x ∷ xs))

  -- after u the bytes s have written the answers to the lines of both
  abbrev Answered : List ℕ → List ℕ → Type 0
  Answered s u = written f (take 128 u) s ++ at_end f (begun_after (take 128 u) s) ≡ answers f (before u (lines_of s))

  from-line : (s u : List ℕ) → Answered s u
  from-line [] u = last_line u
  from-line (b ∷ s) u = by_byte (eqb b 10) refl (from-line s)
    where
      by_byte : (t : Bool) → eqb b 10 ≡ t → ((v : List ℕ) → Answered s v) → Answered (b ∷ s) u
      by_byte true e rest = rw (e, append_assoc (f (take 128 u)) (written f [] s), rest []) (ended-line u (lines_of s))
      by_byte false e rest = rw (clipped u b e, e) (rest (u ++ (b ∷ [])) ∙ ap (answers f) (before-byte u b (lines_of s)))

  pub cut_anywhere : CutAnywhere f
  cut_anywhere blocks = all_at_once f [] blocks ∙ from-line (joined blocks) []

-- a line is answered as its first 128 bytes are, if all lines of more than 127 get one answer
pub alike : {f : List ℕ → List ℕ} {answer : List ℕ} → ((l : List ℕ) → 127 < length l → f l ≡ answer) → (l : List ℕ)
    → f (take 128 l) ≡ f l
alike {f} long l = by_length (dec_le (length l) 128)
  where
    by_length : Dec (length l ≤ 128) → f (take 128 l) ≡ f l
    by_length (yes h) = ap f (take_all 128 l h)
    by_length (no h) =
        let full : length (take 128 l) ≡ 128 = length-take-le 128 l (omega (arith, h)) in
        long (take 128 l) (omega arith) ∙ sym (long l (omega (arith, h)))
