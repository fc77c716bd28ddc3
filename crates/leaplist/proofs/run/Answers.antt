-- `run` keeps to its buffers, and what it writes is the report on the input.
use Rattle.std.proofs.Common.{◌≡◌, take, arith}
use native.Mathlib.Nat.{sub-zero}
use Rattle.std.specs.Prelude.{Result, Ok, Err, MatchResult}
use Rattle.lines.specs.declared.inner.streams.Stop.{Stop}
use Rattle.lines.specs.declared.inner.streams.Stop.TheVariants.{CannotWrite}
use Rattle.leaplist.specs.Report.{report}
use Rattle.leaplist.specs.Runs.{IfSilent}
use Rattle.leaplist.proofs.Lengths.{made_fits, made_is}
use Rattle.leaplist.proofs.Reports.{report-short, report_read}
use Rattle.leaplist.proofs.run.Goals as goal

-- a write that is told of as no failure has written all
wrote_all : {A B : Type 0} (x : Result Unit Stop) → MatchResult x (λ u. A) (λ stop. stop ≡ CannotWrite) → (A → B) → IfSilent x B
wrote_all (Ok tt) m f = f m
wrote_all (Err s) m f = rw m tt

pub slice_bounds-write_out-end : goal.slice_bounds-write_out-end
slice_bounds-write_out-end g c =
    omega (arith, made_fits 4740 _ c.args.out.now _ c.report-made.result (report-short _) c.report-made.ensures)

pub returns : goal.returns
returns g c long room =
    let block = c.read_whole.new.block in
    let n = c.in_ok-n.n in
    let (first, end) = c.in_ok-n.ensures.bytes in
    let put = rw (sub-zero n) at c.report-made.ensures in
    let is = made_is 4740 (report (take n block)) c.args.out.now c.report-made.new.out c.report-made.result (report-short _) room put in
    wrote_all c.write_out.result c.write_out.ensures (λ wrote.
    report_read (g.R.Read.remaining c.args.input.now) (g.R.Read.remaining c.read_whole.new.input)
    (g.W.Write.contents c.args.output.now) (g.W.Write.contents c.write_out.new.output) block n
    (omega (arith, c.in_ok-n.ensures.bound, c.read_whole.auto.block)) (omega (arith, long, c.read_whole.auto.block)) first end
    (rw is at wrote))
