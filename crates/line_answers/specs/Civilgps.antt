-- What civilgps answers to a line.
use Rattle.std.specs.Prelude.{ℕ, List}
use Rattle.refusals.specs.Outcome.{Outcome, then, changed}
use Rattle.builtin.specs.Builtin.{builtin}
use Rattle.readings.specs.Readings.{civil_to_gps}
use Rattle.words.specs.Decimal.{decimal}
use Rattle.stamps.specs.Form.{stamp_read}
use Rattle.lines.specs.OutcomeLine.{line_of}

-- the GPS count of a civil reading in the form
unfoldable pub gps_of_line : List ℕ → Outcome ℕ
gps_of_line l = then (stamp_read l) (civil_to_gps builtin)

-- the answer as a line; a line of more than 127 bytes is refused, by 10 (proofs/CivilgpsInput.antt)
abbrev pub answer_to : List ℕ → List ℕ
answer_to l = line_of (changed decimal (gps_of_line l))
