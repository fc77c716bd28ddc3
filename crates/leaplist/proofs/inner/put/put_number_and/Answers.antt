-- `put_number_and`: the digits, and the byte after them.
use Rattle.std.proofs.Common.{[], ◌∷◌, refl, arith}
use Rattle.words.specs.Decimal.{decimal}
use Rattle.words.proofs.WayBack.{decimal_length}
use Rattle.leaplist.proofs.OneAfterOther.{then_puts}
use Rattle.leaplist.proofs.inner.put.put_number_and.Goals as goal

pub bounds-out-end : goal.bounds-out-end
bounds-out-end c = omega (arith, decimal_length c.args.n)

pub overflow_add-result : goal.overflow_add-result
overflow_add-result c = omega (arith, decimal_length c.args.n)

pub returns : goal.returns
returns c =
    then_puts c.args.out.now c.args.at (decimal c.args.n) (c.args.mark ∷ []) c.put_count-end.ensures (refl, refl)
