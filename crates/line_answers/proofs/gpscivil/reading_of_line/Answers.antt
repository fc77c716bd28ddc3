-- The civil reading of the GPS count, or why there is none.
use Rattle.std.proofs.Common.{rules}
use Rattle.line_answers.specs.Gpscivil.{reading_of_line}
use Rattle.line_answers.proofs.gpscivil.reading_of_line.Goals as goal

pub returns : goal.returns
unfolding reading_of_line
returns c = search rules

pub returns-in_err-read_count : goal.returns-in_err-read_count
unfolding reading_of_line
returns-in_err-read_count c = search rules
