-- What civilgps writes for a whole input is the answers to its lines, wherever it is cut.
use mathlib.Core.Path.{◌≡◌}
use mathlib.Core.List.{List}
use Prim.Native.Nat.{ℕ, ◌<◌}
use native.Mathlib.Omega.{arith}
use lib.ListN.{length}
use Rattle.refusals.specs.Outcome.{refused}
use Rattle.words.specs.Decimal.{decimal}
use Rattle.words.proofs.WayBack.{decimal_length}
use Rattle.stamps.specs.Form.{first, last, stamp_read}
use Rattle.stamps.proofs.Between.{not_as_long}
use Rattle.lines.specs.Lines.{AnswersLines}
use Rattle.lines.proofs.OutcomeLines as outcome
use Rattle.lines.proofs.WholeInput as law
use Rattle.line_answers.specs.Civilgps.{gps_of_line, answer_to}

-- ---- the statement
abbrev pub CivilgpsCutAnywhere : Type 0
CivilgpsCutAnywhere = law.CutAnywhere answer_to

-- ---- its proof
-- the form has 30 bytes
too_long : (l : List ℕ) → 127 < length l → gps_of_line l ≡ refused 10
unfolding gps_of_line stamp_read
too_long l h = rw (not_as_long first last l (λ e. omega arith))

pub answers_lines : AnswersLines 31 answer_to
answers_lines = outcome.answers_lines decimal (λ n. omega (arith, decimal_length n)) gps_of_line too_long

pub cut_anywhere : CivilgpsCutAnywhere
cut_anywhere = law.cut_anywhere answer_to answers_lines
