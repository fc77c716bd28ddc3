-- `put_refused_file`: the report from where the name ends.
use Rattle.std.proofs.Common.{◌++◌, arith}
use Rattle.refusals.specs.Number.{number_of}
use Rattle.leaplist.specs.Report.{refusal_report}
use Rattle.leaplist.proofs.OneAfterOther.{then_puts, from_start}
use Rattle.leaplist.proofs.inner.since.put_refused_file.Goals as goal

pub returns : goal.returns
returns c =
    let a = c.args in
    let name = a.name.now in
    let report = refusal_report (number_of a.refusal) a.line a.bytes.now in
    from_start a.out.now (name ++ report)
    (then_puts a.out.now 0 name report (omega arith, c.put_bytes.ensures) c.put_refusal.ensures)
