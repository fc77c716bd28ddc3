-- What gpscivil writes for a whole input is the answers to its lines, wherever it is cut.
use mathlib.Core.Path.{◌≡◌}
use mathlib.Core.Bool.{and-false}
use mathlib.Core.List.{List}
use Prim.Native.Nat.{ℕ, ◌≤◌, ◌<◌}
use native.Mathlib.Omega.{arith}
use borrow.Author.Tests.{lt-leb}
use lib.Dec.{ltb}
use lib.ListN.{length}
use Rattle.refusals.specs.Outcome.{refused}
use Rattle.civil.specs.declared.CivilDateTime.{CivilDateTime}
use Rattle.stamps.specs.Form.{written}
use Rattle.lines.specs.Lines.{AnswersLines}
use Rattle.lines.proofs.OutcomeLines as outcome
use Rattle.lines.proofs.WholeInput as law
use Rattle.line_answers.specs.Gpscivil.{reading_of_line, answer_to}

-- ---- the statement
abbrev pub GpscivilCutAnywhere : Type 0
GpscivilCutAnywhere = law.CutAnywhere answer_to

-- ---- its proof
-- a count has at most 20 digits
too_long : (l : List ℕ) → 127 < length l → reading_of_line l ≡ refused 10
unfolding reading_of_line
too_long l h = rw (lt-leb (length l) 20 (omega arith), and-false (ltb 0 (length l)))

-- the form has 30 bytes
form_short : (c : CivilDateTime) → length (written c) ≤ 30
form_short c = omega arith

pub answers_lines : AnswersLines 31 answer_to
answers_lines = outcome.answers_lines written form_short reading_of_line too_long

pub cut_anywhere : GpscivilCutAnywhere
cut_anywhere = law.cut_anywhere answer_to answers_lines
