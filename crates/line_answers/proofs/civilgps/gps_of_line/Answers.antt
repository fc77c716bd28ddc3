-- The GPS count of the civil reading, or why there is none.
use Rattle.std.proofs.Common.{rules}
use Rattle.line_answers.specs.Civilgps.{gps_of_line}
use Rattle.line_answers.proofs.civilgps.gps_of_line.Goals as goal

pub returns : goal.returns
unfolding gps_of_line
returns c = search rules

pub returns-in_err-read : goal.returns-in_err-read
unfolding gps_of_line
returns-in_err-read c = search rules
