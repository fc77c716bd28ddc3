-- `put_before_and`: the words from where the date and time end.
use Rattle.std.proofs.Common.{refl}
use Rattle.leaplist.specs.Since.{same_before}
use Rattle.leaplist.proofs.OneAfterOther.{then_puts}
use Rattle.leaplist.proofs.inner.since.put_before_and.Goals as goal

pub returns : goal.returns
returns c =
    let a = c.args in
    then_puts a.out.now 0 (same_before a.utc) a.words.now c.put_before-end.ensures (refl, c.put_bytes.ensures)
