-- The digits, and the line end after them.
use Rattle.std.proofs.Common.{refl, [], ◌∷◌, arith, length-append}
use Rattle.words.specs.Decimal.{decimal}
use Rattle.words.proofs.Stores.{joined}
use Rattle.words.proofs.WayBack.{decimal_length}
use Rattle.line_answers.proofs.civilgps.put_gps.Goals as goal

pub bounds-out-end : goal.bounds-out-end
bounds-out-end c = omega (arith, decimal_length c.args.gps.0)

pub overflow_add-result : goal.overflow_add-result
overflow_add-result c = omega (arith, decimal_length c.args.gps.0)

pub returns : goal.returns
returns c = (
  simp length-append (omega (arith, c.put_count-end.ensures.0)),
  joined c.args.out.now 0 c.put_count-end.result (decimal c.args.gps.0) (10 ∷ []) c.put_count-end.ensures.1
      c.put_count-end.ensures.0 refl,
)
