-- `put_before`: the words, the date and time, and the name of the scale, each from where the part before ends.
use Rattle.std.proofs.Common.{◌++◌, refl}
use Rattle.leaplist.specs.Since.{before_words, utc_word, second_of}
use Rattle.leaplist.proofs.OneAfterOther.{then_puts}
use Rattle.leaplist.proofs.inner.since.put_before.Goals as goal

pub returns : goal.returns
returns c =
    let text = second_of c.args.utc in
    then_puts c.args.out.now 0 before_words (text ++ utc_word) (refl, c.put_bytes.ensures)
    (then_puts c.put_bytes.new.out 12 text utc_word c.put_second-end.ensures (refl, c.put_bytes-2.ensures))
