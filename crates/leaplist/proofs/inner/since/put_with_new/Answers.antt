-- `put_with_new`: the reader's answer on NEW tells which line is due.
use Rattle.std.proofs.Common.{ap}
use Rattle.tables.specs.Answers.{taken_in}
use Rattle.leaplist.proofs.SinceLines.{new_accepted, new_refused}
use Rattle.leaplist.proofs.inner.since.put_with_new.Goals as goal

pub returns-in-Ok : goal.returns-in-Ok
returns-in-Ok c =
    let a = c.args in
    rw (new_accepted a.new.now c.read-read.result c.read-read.ensures a.old (ap taken_in c.in-Ok.is)) c.put_alike.ensures

pub returns-in-Err : goal.returns-in-Err
returns-in-Err c =
    let a = c.args in
    let refused = ap taken_in c.in-Err.is in
    rw (new_refused a.new.now c.read-read.result c.read-read.ensures a.old c.in-Err.refusal refused)
    c.put_refused_file.ensures
