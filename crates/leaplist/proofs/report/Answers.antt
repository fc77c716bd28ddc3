-- `report`: the reader's answer tells which report is due.
use Rattle.std.proofs.Common.{ap, arith}
use borrow.Author.Tests.{le-ltb}
use lib.ListN.{length}
use Rattle.refusals.specs.Number.{number_of}
use Rattle.tables.specs.Answers.{taken_in}
use Rattle.leaplist.specs.Report.{refusal_report}
use Rattle.leaplist.proofs.OneAfterOther.{from_start}
use Rattle.leaplist.proofs.Reports.{report_accepted, report_refused}
use Rattle.leaplist.proofs.report.Goals as goal

pub returns-in-Ok : goal.returns-in-Ok
returns-in-Ok c =
    let is = report_accepted c.args.bytes.now c.read-read.result c.read-read.ensures (ap taken_in c.in-Ok.is) in
    let room = le-ltb (length c.args.out.now) 4740 (omega arith) in
    rw (room, is) c.put_table.ensures

pub returns-in-Err : goal.returns-in-Err
returns-in-Err c =
    let bs = c.args.bytes.now in
    let refusal = c.in-Err.refusal in
    let is = report_refused bs c.read-read.result c.read-read.ensures refusal (ap taken_in c.in-Err.is) in
    let line = refusal_report (number_of refusal) c.read-read.result.line bs in
    let room = le-ltb (length c.args.out.now) 4740 (omega arith) in
    rw (room, is) (from_start c.args.out.now line c.put_refusal.ensures)
