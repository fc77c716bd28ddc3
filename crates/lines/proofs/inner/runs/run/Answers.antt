-- `run`: a turn answers what it takes, and the end of the input ends the run.
use Rattle.std.proofs.Common.{◌∙◌, rules}
use Rattle.std.proofs.lemmas.Result.{err_from_is_err_and}
use Rattle.lines.proofs.Runs.{turn, read_ends}
use Rattle.lines.proofs.inner.runs.run.Goals as goal

pub returns-in_err-next : goal.returns-in_err-next
returns-in_err-next g c =
    let e = err_from_is_err_and c.from_residual.result c.from_residual.ensures.1 in
    rw (e.1, e.2)
    (read_ends g.met.A.Answering.answers_lines (g.R.Read.remaining c.args.input.now) (g.R.Read.remaining c.loop.input)
    (g.R.Read.remaining c.read_on.new.input) (g.W.Write.contents c.args.output.now) (g.W.Write.contents c.loop.output)
    c.loop.line c.loop.block c.read_on.new.block c.loop.place c.in_err-next.field-0.0 c.loop.invariant.3 c.in_err-next.ensures.bytes)

pub returns-in_err-place : goal.returns-in_err-place
returns-in_err-place g c =
    let e = err_from_is_err_and c.from_residual-in_err-place.result c.from_residual-in_err-place.ensures.1 in
    rw (e.1, e.2, c.in_err-place.ensures.answers) tt

pub loop-preserved : goal.loop-preserved
loop-preserved g c = (
  search rules,
  search rules,
  c.in_ok-place.ensures.bound,
  turn g.met.A.Answering.answers_lines (g.R.Read.remaining c.args.input.now) (g.R.Read.remaining c.loop.input)
      (g.R.Read.remaining c.read_on.new.input) (g.W.Write.contents c.args.output.now) (g.W.Write.contents c.loop.output)
      (g.W.Write.contents c.answer_and_write.new.output) c.loop.line c.answer_and_write.new.line
      c.loop.block c.read_on.new.block c.loop.place c.in_ok-next.next c.in_ok-place.place
      (c.loop.invariant.0 ∙ c.requires.line_len) c.loop.invariant.2.held c.loop.invariant.3 c.in_ok-next.ensures.bytes
      c.in_ok-place.ensures.answers,
)
