-- `put_refusal`: the word, the number and the place, each from where the part before ends.
use Rattle.std.proofs.Common.{◌+◌, ◌++◌, refl, sym, arith}
use Rattle.words.specs.Decimal.{decimal}
use Rattle.words.proofs.WayBack.{decimal_length}
use Rattle.lines.specs.OutcomeLine.{refused_word}
use Rattle.leaplist.specs.Report.{place}
use Rattle.leaplist.proofs.OneAfterOther.{then_puts}
use Rattle.leaplist.proofs.inner.put.put_refusal.Goals as goal

pub put_place-requires : goal.put_place-requires
put_place-requires c = omega (arith, decimal_length c.number.result, c.put_count-end.ensures.0)

pub returns : goal.returns
returns c =
    let a = c.args in
    let k = c.number.result in
    let where_from = place a.line a.bytes.now in
    rw (sym c.number.ensures)
    (then_puts a.out.now a.at refused_word (decimal k ++ where_from) (refl, c.put_bytes.ensures)
    (then_puts c.put_bytes.new.out (a.at + 8) (decimal k) where_from c.put_count-end.ensures c.put_place.ensures))
