-- What gpscivil answers to a line.
use Rattle.std.specs.Prelude.{ℕ, List}
use Rattle.refusals.specs.Outcome.{Outcome, then, changed}
use Rattle.civil.specs.declared.CivilDateTime.{CivilDateTime}
use Rattle.builtin.specs.Builtin.{builtin}
use Rattle.readings.specs.Readings.{gps_to_civil}
use Rattle.words.specs.Decimal.{count_read}
use Rattle.stamps.specs.Form.{written}
use Rattle.lines.specs.OutcomeLine.{line_of}

-- the civil reading of a GPS count in digits
unfoldable pub reading_of_line : List ℕ → Outcome CivilDateTime
reading_of_line l = then (count_read l) (gps_to_civil builtin)

-- the answer as a line; a line of more than 127 bytes is refused, by 10 (proofs/GpscivilInput.antt)
abbrev pub answer_to : List ℕ → List ℕ
answer_to l = line_of (changed written (reading_of_line l))
