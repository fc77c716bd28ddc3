-- `since`: the reader's answer on OLD tells which line is due.
use Rattle.std.proofs.Common.{ap, arith}
use borrow.Author.Tests.{le-ltb}
use lib.ListN.{length}
use Rattle.tables.specs.Answers.{taken_in}
use Rattle.leaplist.proofs.SinceLines.{old_accepted, old_refused}
use Rattle.leaplist.proofs.since.Goals as goal

pub returns-in-Ok : goal.returns-in-Ok
returns-in-Ok c =
    let a = c.args in
    let accepted = ap taken_in c.in-Ok.is in
    let is = old_accepted a.old.now c.read-read.result c.read-read.ensures a.new.now accepted in
    let room = le-ltb (length a.out.now) 106 (omega arith) in
    rw (room, is) c.put_with_new.ensures

pub returns-in-Err : goal.returns-in-Err
returns-in-Err c =
    let a = c.args in
    let refused = ap taken_in c.in-Err.is in
    let is = old_refused a.old.now c.read-read.result c.read-read.ensures a.new.now c.in-Err.refusal refused in
    let room = le-ltb (length a.out.now) 106 (omega arith) in
    rw (room, is) c.put_refused_file.ensures
