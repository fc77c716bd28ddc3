-- The programs gpscivil and civilgps together: each gives back what the other took. A program writes its answers to the
-- lines of its input (line_answers/proofs: CutAnywhere).
use Rattle.std.specs.Prelude.{◌≡◌, ◌↔◌, ℕ, ◌^◌, ◌<◌}
use mathlib.Core.List.{List, [], ◌∷◌, ◌++◌, map}
use Rattle.refusals.specs.Outcome.{Outcome, answered, changed}
use Rattle.civil.specs.declared.CivilDateTime.{CivilDateTime}
use Rattle.builtin.specs.Builtin.{builtin}
use Rattle.readings.specs.Readings.{gps_to_civil}
use Rattle.words.specs.Decimal.{decimal}
use Rattle.texts.specs.Lines.{lines_of}
use Rattle.stamps.specs.Form.{written}
use Rattle.lines.specs.Lines.{answers}
use Rattle.line_answers.specs.Gpscivil as gpscivil
use Rattle.line_answers.specs.Civilgps as civilgps

-- the text that gpscivil answers to the digits of a GPS count
abbrev pub text_of : ℕ → Outcome (List ℕ)
text_of g = changed written (gpscivil.reading_of_line (decimal g))

-- what each program writes for an input
abbrev pub gpscivil_writes : List ℕ → List ℕ
gpscivil_writes input = answers gpscivil.answer_to (lines_of input)

abbrev pub civilgps_writes : List ℕ → List ℕ
civilgps_writes input = answers civilgps.answer_to (lines_of input)

-- lines as a text, each with its end
abbrev pub ended : List (List ℕ) → List ℕ
ended [] = []
ended (l ∷ ls) = l ++ (10 ∷ ended ls)

abbrev pub Each : {A : Type 0} → (A → Type 0) → List A → Type 0
Each P [] = Unit {0}
Each P (a ∷ rest) = P a × Each P rest

-- a GPS count of 64 bits that is read
abbrev pub IsRead : ℕ → Type 0
IsRead g = (g < 2 ^ 64) × ((c : CivilDateTime) × (gps_to_civil builtin g ≡ answered c))

-- a text that civilgps accepts
abbrev pub Accepted : List ℕ → Type 0
Accepted text = (g : ℕ) × (civilgps.gps_of_line text ≡ answered g)

pub record RoundTrips : Type 0 where
  -- A text is answered by a count exactly if the count, of 64 bits, is answered by the text: the texts that civilgps
  -- accepts are those that gpscivil writes.
  pub accepted_exactly : (text : List ℕ) (g : ℕ)
      → (civilgps.gps_of_line text ≡ answered g) ↔ ((g < 2 ^ 64) × (text_of g ≡ answered text))
  -- So what is asked below is no more than it says: a count is read exactly if some text is answered by it,
  pub read_exactly : (g : ℕ) → IsRead g ↔ ((text : List ℕ) × (civilgps.gps_of_line text ≡ answered g))
  -- and a text is accepted exactly if some count is answered by it.
  pub written_exactly : (text : List ℕ) → Accepted text ↔ ((g : ℕ) × (g < 2 ^ 64) × (text_of g ≡ answered text))
  -- gpscivil | civilgps gives back counts that are read,
  pub counts_come_back : (gs : List ℕ) → Each IsRead gs
      → civilgps_writes (gpscivil_writes (ended (map decimal gs))) ≡ ended (map decimal gs)
  -- and civilgps | gpscivil texts that are accepted.
  pub texts_come_back : (texts : List (List ℕ)) → Each Accepted texts
      → gpscivil_writes (civilgps_writes (ended texts)) ≡ ended texts
