-- `put_count`: the last digits, as many as there are.
use Rattle.words.proofs.Writing.{digits_length}
use Rattle.words.proofs.inner.digits.put_count.Goals as goal

pub returns : goal.returns
returns c =
    let width = c.places-width.ensures.0 in
    (rw (digits_length, width), rw (← width) c.put_last.ensures)
