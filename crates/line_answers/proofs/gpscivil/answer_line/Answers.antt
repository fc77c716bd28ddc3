-- What a line reads to fits the form, and there is room for it.
use Rattle.std.proofs.Common.{sym}
use borrow.Author.Tests.{le-ltb}
use Rattle.line_answers.proofs.ReadingFits.{line_fits}
use Rattle.line_answers.proofs.gpscivil.answer_line.Goals as goal

pub put_civil-requires-clause-fits : goal.put_civil-requires-clause-fits
put_civil-requires-clause-fits c = line_fits _ c.in-Ok.fields (sym c.in-Ok.ensures)

pub returns-in-Ok : goal.returns-in-Ok
returns-in-Ok c =
    let room = c.if-out-lt-LONGEST_ANSWER.false in
    let found = sym c.in-Ok.ensures in
    rw (le-ltb, found) c.put_civil.ensures
