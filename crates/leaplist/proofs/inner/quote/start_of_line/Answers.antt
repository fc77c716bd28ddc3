-- `start_of_line`: the line as it stands, or its first 40 bytes.
use Rattle.std.proofs.Common.{◌≡◌, ◌+◌, ◌-◌, drop, arith}
use Rattle.texts.specs.Ends.{until_end}
use Rattle.texts.proofs.FirstLine.{until_within}
use Rattle.leaplist.proofs.LineStarts.{end-within, line_is, whole-start, cut_start}
use Rattle.leaplist.proofs.inner.quote.start_of_line.Goals as goal

pub slice_bounds-result-end : goal.slice_bounds-result-end
slice_bounds-result-end c =
    omega (arith, end-within c.args.s.now c.line_place-at.result c.line_place-at.ensures.1, c.next_end-end.ensures)

pub returns-then-end-at-lt-MOST_SHOWN : goal.returns-then-end-at-lt-MOST_SHOWN
returns-then-end-at-lt-MOST_SHOWN c =
    let a = c.args in
    let at = c.line_place-at.result in
    let rest = drop at a.s.now in
    let n : c.next_end-end.result - at ≡ until_end rest = omega (arith, c.next_end-end.ensures) in
    rw (n, line_is a.s.now at (a.line - 1) c.line_place-at.ensures.0)
    (whole-start (until_end rest) rest (until_within rest) (omega arith))

pub slice_bounds-result-end-2 : goal.slice_bounds-result-end-2
slice_bounds-result-end-2 c =
    omega (arith, end-within c.args.s.now c.line_place-at.result c.line_place-at.ensures.1, c.next_end-end.ensures)

pub returns : goal.returns
returns c =
    let a = c.args in
    let at = c.line_place-at.result in
    let rest = drop at a.s.now in
    let n : at + 40 - at ≡ 40 = omega arith in
    rw (n, line_is a.s.now at (a.line - 1) c.line_place-at.ensures.0)
    (cut_start (until_end rest) rest (omega (arith, c.next_end-end.ensures)))
