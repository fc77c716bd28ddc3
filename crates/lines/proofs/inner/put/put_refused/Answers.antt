-- `put_refused`: the word, the number and the line end, each from where the one before ends.
use Rattle.std.proofs.Common.{◌≡◌, [], ◌∷◌, ◌++◌, length, refl, sym, length-append, arith}
use Rattle.words.specs.Decimal.{decimal}
use Rattle.words.proofs.Stores.{joined}
use Rattle.words.proofs.WayBack.{decimal_length}
use Rattle.lines.specs.OutcomeLine.{refused_word}
use Rattle.lines.proofs.inner.put.put_refused.Goals as goal

pub bounds-out-end : goal.bounds-out-end
bounds-out-end c = omega (arith, decimal_length c.number.result)

pub overflow_add-result : goal.overflow_add-result
overflow_add-result c = omega (arith, decimal_length c.number.result)

pub returns : goal.returns
returns c =
    let count = c.put_count-end in
    let out = c.args.out.now in
    let k = c.number.result in
    let two = joined out 0 8 refused_word (decimal k) c.put_bytes.ensures refl count.ensures.1 in
    let end : count.result ≡ length (refused_word ++ decimal k) = omega (arith, count.ensures.0) in
    let line = joined out 0 count.result (refused_word ++ decimal k) (10 ∷ []) two (omega (arith, end)) refl in
    let long = length-append (decimal k) (10 ∷ []) in
    rw (sym c.number.ensures) (omega (arith, end), line)
