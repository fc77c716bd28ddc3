-- `line_place`: the line after the one at a place begins past its end.
use Rattle.std.proofs.Common.{◌-◌, arith}
use Rattle.leaplist.proofs.LineStarts.{end-within, goes_on, ends}
use Rattle.leaplist.proofs.inner.quote.line_place.Goals as goal

pub returns-then-end-s : goal.returns-then-end-s
returns-then-end-s c =
    let s = c.args.s.now in
    let at = c.loop-left.at in
    let asked = c.args.line - 1 in
    let h = end-within s at c.loop-left.invariant.1 in (
      rw c.next_end-end.ensures
          (ends s at (asked - c.loop-left.left) asked c.loop-left.invariant.0
          (omega (arith, c.next_end-end.ensures)) (omega arith)),
      omega arith,
    )

pub overflow_add-at : goal.overflow_add-at
overflow_add-at c =
    omega (arith, end-within c.args.s.now c.loop-left.at c.loop-left.invariant.1, c.next_end-end.ensures)

pub loop-left-preserved : goal.loop-left-preserved
loop-left-preserved c =
    let s = c.args.s.now in
    let at = c.loop-left.at in
    let asked = c.args.line - 1 in
    let h = end-within s at c.loop-left.invariant.1 in (
      rw c.next_end-end.ensures
          (goes_on s at (asked - c.loop-left.left) (asked - (c.loop-left.left - 1)) c.loop-left.invariant.0 (omega arith)),
      omega (arith, h, c.next_end-end.ensures),
      omega arith,
    )
